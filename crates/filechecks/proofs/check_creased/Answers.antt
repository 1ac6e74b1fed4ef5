-- `check_creased` has the file's twins in a table of its own, checks them, and counts their edges for the fields after them.
use Prim.Native.Nat.{ℕ, ◌+◌, ◌*◌, ◌≤◌}
use mathlib.Core.Path.{◌≡◌, sym, ap, ◌∙◌}
use mathlib.Core.List.{List}
use native.Mathlib.Omega.{arith}
use lib.ListN.{length, take}
use lib.Seq.{take_at}
use Rattle.laws.specs.Below.{tabulate}
use Rattle.laws.specs.Parts.{in_front}
use Rattle.laws.proofs.Tabulate.{length-tabulate}
use Rattle.halfedges.specs.Cage.{E}
use Rattle.halfedges.specs.Refusals.{TWIN, given_at, first}
use Rattle.halfedges.proofs.Told.{handed_on}
use Rattle.halfedges.proofs.Checks.{given_alone, stops_before, passes_before}
use Rattle.tables.specs.Rules.{bad_twin}
use Rattle.cagefile.specs.Numbers.{u16_at, as_twin}
use Rattle.filechecks.specs.Contents.{HIn, twins_in}
use Rattle.filechecks.specs.FileChecks.{twins_asked}
use Rattle.filechecks.proofs.Lengths.{twins-length}
use Rattle.filechecks.proofs.Sound.{edges_few}
use Rattle.filechecks.proofs.Places.{twins_at}
use Rattle.filechecks.proofs.check_creased.Goals as goal

-- the part of the table that was filled
module _ (f : List ℕ) (h : ℕ) (p : h ≡ HIn f) (now lent : List ℕ) (copied : now ≡ in_front (tabulate h (λ k. as_twin (u16_at f (12 + 2 * k)))) lent) where
  twins_there : take h now ≡ twins_in f
  twins_there = ap (take h) copied ∙ take_at _ _ _ (length-tabulate h _) ∙ twins_at f h p

  filled : h ≡ length (take h now)
  filled = p ∙ sym (ap length twins_there ∙ twins-length f)

  -- check 3 of it, and its edges
  pairs : given_at (length (take h now)) (bad_twin (take h now)) TWIN ≡ first (twins_asked f 0)
  unfolding twins_asked
  pairs =
      ap (λ t. given_at (length t) (bad_twin t) TWIN) twins_there
      ∙ ap (λ n. given_at n (bad_twin (twins_in f)) TWIN) (twins-length f)
      ∙ given_alone (HIn f) (bad_twin (twins_in f)) TWIN (λ k. omega arith)

  few_edges : E (take h now) ≤ h
  few_edges = rw twins_there (omega (arith, edges_few f))

pub slice_bounds-check_twins-end : goal.slice_bounds-check_twins-end
slice_bounds-check_twins-end c = filled c.args.file.now _ c.requires.halfedges _ _ c.copy_twins.ensures

pub returns-in_err-check_twins : goal.returns-in_err-check_twins
returns-in_err-check_twins c =
    rw (handed_on c.from_residual.ensures)
    (stops_before _ _ _ (c.in_err-check_twins.ensures ∙ pairs c.args.file.now _ c.requires.halfedges _ _ c.copy_twins.ensures))

pub slice_bounds-count_edges-end : goal.slice_bounds-count_edges-end
slice_bounds-count_edges-end c = filled c.args.file.now _ c.requires.halfedges _ _ c.copy_twins.ensures

pub check_later-requires : goal.check_later-requires
check_later-requires c =
    (c.requires.few_halfedges, omega (arith, c.count_edges-edges.ensures, few_edges c.args.file.now _ c.requires.halfedges _ _ c.copy_twins.ensures, c.requires.few_halfedges), c.requires.few_vertices)

pub returns : goal.returns
returns c =
    let there = twins_there c.args.file.now _ c.requires.halfedges _ _ c.copy_twins.ensures in
    (rw (c.count_edges-edges.ensures, there) at c.check_later.ensures)
    ∙ passes_before _ _ (c.in_ok-check_twins.ensures ∙ pairs c.args.file.now _ c.requires.halfedges _ _ c.copy_twins.ensures)
