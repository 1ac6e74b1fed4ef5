-- Every answer about files fits its cells: of reading (`read_fits`), writing (`write_fits`), the moves (`move_fits`) and writing STL
-- (`stl_fits`). Assumes nothing.
use Prim.Native.Nat.{ℕ, ◌≤◌, ◌<◌}
use mathlib.Core.Path.{◌≡◌}
use mathlib.Core.List.{List, [], ◌∷◌}
use native.Mathlib.Omega.{arith}
use lib.Dec.{eqb}
use borrow.Author.Tests.{eqb-true}
use lib.IntN.{ℤ}
use lib.ListN.{length}
use Rattle.laws.proofs.Tests.{by-test}
use Rattle.halfedges.specs.Cage.{most_halfedges, most_vertices}
use Rattle.halfedges.specs.Refusals.{Verdict, SHAPE, LIMIT, TWIN, SHORT, FIELD, EXTRA, NOT_OLD, short, first, said}
use Rattle.halfedges.proofs.Checks.{first_zero, done_both}
use Rattle.tables.specs.Tables.{Tables}
use Rattle.points.specs.declared.weights.Weight.{Weight}
use Rattle.points.specs.declared.weights.Weight.TheVariants.{Short, Paper}
use Rattle.points.specs.Weights.{weight_number}
use Rattle.points.specs.Operations.{creased_checks}
use Rattle.cagefile.specs.declared.fields.Form.{Form}
use Rattle.cagefile.specs.declared.fields.Form.TheVariants.{One, Two}
use Rattle.cagefile.specs.Fields.{Cage, number, Head, opening, table_heads, later_heads, heads, file}
use Rattle.filechecks.specs.Contents.{HIn, VIn, form_of, edges_for, twins_in, heads_in, weight_in, cage_in, past}
use Rattle.filechecks.specs.FileChecks.{field_checks, fields_checks, Asked, nothing, opening_asked, twins_asked, weight_asked, later_asked, front_to_back, file_checks, both}
use Rattle.reading.specs.Reading.{short_room, read_verdict, read_file}
use Rattle.filechecks.proofs.Sound.{opening_kept, edges_few, few_creases, longest}
use Rattle.reading.proofs.Verdict.{read_sound}
use Rattle.reading.proofs.Outcomes.{values_in}
use Rattle.writing.specs.Writing.{write_checks, write_verdict, written, write_file}
use Rattle.writing.proofs.Accepted.{write_fits as write-Kept}
use Rattle.filelaws.proofs.Accepted.{fits_length, accepted-length}
use Rattle.moves.specs.Moves.{cage_moves, move_checks, move_room, move_verdict, move}
use Rattle.stl.specs.File.{stl_file}
use Rattle.stl.specs.Writing.{stl_verdict, write_stl}
use Rattle.stl.proofs.FacetLaws.{file-length as stl-length}
use Rattle.stl.proofs.Verdict.{stl_ready}
use Rattle.answers.specs.Cells.{cells, length_cells}
use Rattle.answers.specs.Internal.Fitting.{Fitting}
use Rattle.answers.proofs.Verdicts.{short_small, cage_small, creased_small, rooms_small}
use Rattle.answers.proofs.Small.{Small, zeros_fit, fitting_when, given_small, given_at_small, first_small, joined_small}

-- where the field after some has its head
abbrev end_of : ℕ → List Head → ℕ
end_of at [] = at
end_of at (h ∷ hs) = end_of (past at h) hs

starts_before_end : (at : ℕ) (hs : List Head) → at ≤ end_of at hs
starts_before_end at [] = omega arith
starts_before_end at (h ∷ hs) = omega (arith, starts_before_end (past at h) hs)

field_small : (f : List ℕ) (at : ℕ) (h : Head) → at < 4294967296 → Small (first (field_checks f at h))
unfolding field_checks
field_small f at h l =
    first_small _ (given_small _ (SHORT at) (omega arith, omega arith), (given_small _ (FIELD at) (omega arith, omega arith), (given_small _ (SHORT at) (omega arith, omega arith), tt)))

fields_small : (f : List ℕ) (at : ℕ) (hs : List Head) → end_of at hs < 4294967296 → Small (first (fields_checks f at hs))
unfolding fields_checks
fields_small f at [] l = first_small _ (given_small _ (EXTRA at) (omega arith, omega arith), tt)
fields_small f at (h ∷ hs) l =
    joined_small (field_checks f at h) _ (field_small f at h (omega (arith, starts_before_end (past at h) hs))) (λ _. fields_small f (past at h) hs l)

-- questions whose answers fit, wherever they are asked
abbrev AskedSmall : List Asked → Type 0
AskedSmall [] = Unit {0}
AskedSmall (q ∷ qs) = ((at : ℕ) → at < 4294967296 → Small (first (q at))) × AskedSmall qs

front_small : (f : List ℕ) (at : ℕ) (qs : List Asked) (hs : List Head) → AskedSmall qs → end_of at hs < 4294967296 → Small (first (front_to_back f at qs hs))
unfolding front_to_back
front_small f at [] hs s l = fields_small f at hs l
front_small f at (q ∷ qs) [] s l = fields_small f at [] l
front_small f at (q ∷ qs) (h ∷ hs) s l =
    let before : at < 4294967296 = omega (arith, starts_before_end (past at h) hs) in
    joined_small (field_checks f at h) _ (field_small f at h before) (λ _. joined_small (q at) _ (s.0 at before) (λ _. front_small f (past at h) qs hs s.1 l))

module _ (f : List ℕ) where
  nothing_small : (at : ℕ) → at < 4294967296 → Small (first (nothing at))
  unfolding first
  nothing_small at l = (omega arith, omega arith)

  later_small : (form : Form) → HIn f ≤ most_halfedges → AskedSmall (later_asked form f)
  unfolding twins_asked weight_asked
  later_small One few = tt
  later_small Two few = (
    nothing_small,
    (
      nothing_small,
      (
        (λ at l. first_small _ (given_at_small _ _ TWIN (λ h m. (omega arith, omega arith)), tt)),
        (nothing_small, (nothing_small, ((λ at l. first_small _ (given_small _ (FIELD at) (omega arith, omega arith), tt)), tt))),
      ),
    ),
  )

  -- of a file whose H and V are within the limits
  ends : (form : Form) → HIn f ≤ most_halfedges → VIn f ≤ most_vertices → end_of (past 0 opening) (heads form (HIn f) (edges_for form (twins_in f)) (VIn f)) < 4294967296
  unfolding table_heads later_heads
  ends One few less = omega arith
  ends Two few less = omega (arith, edges_few f)

  opening_small : (forms : List Form) → Small (first (opening_asked forms f 0))
  unfolding opening_asked
  opening_small forms = first_small _ (given_small _ (FIELD 0) (omega arith, omega arith), (given_small _ SHAPE (omega arith, omega arith), (given_small _ LIMIT (omega arith, omega arith), tt)))

  file_small : (forms : List Form) → Small (first (file_checks forms f))
  unfolding file_checks front_to_back heads_in
  file_small forms =
      joined_small (field_checks f 0 opening) _ (field_small f 0 opening (omega arith))
      (λ _. joined_small (opening_asked forms f 0) _ (opening_small forms)
      (λ e. let k = opening_kept forms f 0 e in front_small f (past 0 opening) (later_asked (form_of f) f) (heads (form_of f) (HIn f) (edges_for (form_of f) (twins_in f)) (VIn f)) (later_small (form_of f) k.1) (ends (form_of f) k.1 k.2)))

form_small : (form : Form) → number form < 4294967296
form_small One = omega arith
form_small Two = omega arith

weight_small : (w : Weight) → weight_number w < 4294967296
weight_small Short = omega arith
weight_small Paper = omega arith

module _ (f : List ℕ) (x : Tables) (xp : List ℤ) (xc : List ℕ) where
  read_small : Small (read_verdict f x xp xc)
  unfolding read_verdict short_room
  read_small = joined_small (file_checks both f) _ (file_small f both) (λ _. rooms_small _ _ _ x xp xc)

  read_done : (read_verdict f x xp xc).number ≡ 0 → Fitting (values_in f)
  unfolding read_verdict
  read_done z =
      let s = read_sound f x xp xc (first_zero _ z) in
      (form_small (form_of f), (omega (arith, s.few_halfedges), (omega (arith, s.few_vertices), (omega (arith, s.few_halfedges, few_creases f), (weight_small (weight_in f), tt)))))

  pub read_fits : Fitting (cells (read_file f x xp xc).answer)
  unfolding read_file said
  read_fits = (read_small.0, (read_small.1, fitting_when (read_verdict f x xp xc) _ _ read_done zeros_fit))

-- no longest file is too long for a cell
short-file : (form : Form) (n : ℕ) → n ≤ longest form → n < 4294967296
short-file One n l = omega arith
short-file Two n l = omega arith

-- what writing answers, where its verdict fits and, done, its bytes are not too many
written_fits : (v : Verdict) (bytes lent : List ℕ) → Small v → (v.number ≡ 0 → length bytes < 4294967296) → Fitting (length_cells (written v bytes lent).answer)
unfolding written said
written_fits v bytes lent s f = (s.0, (s.1, (by-test (eqb v.number 0) (λ e. rw e (f (eqb-true _ 0 e))) (λ e. rw e (omega arith)), tt)))

room_small : (bytes lent : ℕ) → Small (first (short 5 bytes lent ∷ []))
room_small bytes lent = first_small _ (short_small 5 bytes lent (omega arith), tt)

module _ (form : Form) (w : Cage) (lent : List ℕ) where
  checks_fit : (form : Form) → Small (first (write_checks form w))
  unfolding write_checks
  checks_fit One = cage_small w.connectivity w.points 0
  checks_fit Two = creased_small w.connectivity w.creases w.points 0

  write_done : (write_verdict form w lent).number ≡ 0 → length (file form w) < 4294967296
  unfolding write_verdict
  write_done z = let k = write-Kept form w lent (first_zero _ z) in short-file form _ (fits_length form w k.0 k.1)

  pub write_fits : Fitting (length_cells (write_file form w lent).answer)
  unfolding write_file write_verdict
  write_fits = written_fits _ _ lent (joined_small (write_checks form w) _ (checks_fit form) (λ _. room_small _ _)) write_done

module _ (from to : Form) (f lent : List ℕ) where
  abbrev moved : Cage
  moved = cage_in f

  cage_moves_small : Small (first (cage_moves to moved))
  unfolding cage_moves
  cage_moves_small =
      joined_small (creased_checks moved.connectivity moved.creases moved.points 0) _ (creased_small moved.connectivity moved.creases moved.points 0)
      (λ _. first_small _ (given_small _ NOT_OLD (omega arith, omega arith), tt))

  checks_small : Small (first (move_checks from to f))
  unfolding move_checks
  checks_small = joined_small (file_checks (from ∷ []) f) _ (file_small f (from ∷ [])) (λ _. cage_moves_small)

  move_done : (move_verdict from to f lent).number ≡ 0 → length (file to moved) < 4294967296
  unfolding move_verdict move_checks cage_moves
  move_done z =
      let checks = creased_checks moved.connectivity moved.creases moved.points 0 in
      let passed = (done_both (move_checks from to f) _ (first_zero _ z)).0 in
      let accepted = (done_both checks _ (done_both (file_checks (from ∷ []) f) _ passed).1).0 in
      short-file to _ (accepted-length to moved accepted)

  pub move_fits : Fitting (length_cells (move from to f lent).answer)
  unfolding move move_verdict move_room
  move_fits = written_fits _ _ lent (joined_small (move_checks from to f) _ checks_small (λ _. room_small _ _)) move_done

module _ (vert : List ℕ) (points : List ℤ) (lent : List ℕ) where
  stl_done : (stl_verdict vert points lent).number ≡ 0 → length (stl_file vert points) < 4294967296
  unfolding stl_verdict
  stl_done z = let r = (stl_ready vert points lent (first_zero _ z)).0 in omega (arith, stl-length vert points, r.few)

  pub stl_fits : (write_stl vert points lent).answer.values < 4294967296
  unfolding write_stl written said
  stl_fits = by-test (eqb (stl_verdict vert points lent).number 0) (λ e. rw e (stl_done (eqb-true _ 0 e))) (λ e. rw e (omega arith))
