-- The pass over the edges, one halfedge at a time. Assumes nothing.
--     meet_only, step_only, put_step_only        the cells that a step can change
--     own, step-cell, own_border, own_start, own_finish   what it leaves in the cells of its edge
--     border_way, inner_way                      the two ways of a step
--     edged_on, put_edge_same                     a step, wherever the level's points stand
--     corner_is, corner_same, corner_near, halfedge_is   what is read of a halfedge
--     asked_two, asked_three, turns_are          three halfedges in turn
--     none_among, inner_turns, inner-asked       where none of the three is on a border
--     triangle_asks, triangle_same               the loop over the triangles
use Prim.Native.Nat.{ℕ, ◌+◌, ◌*◌, ◌≤◌, ◌<◌}
use mathlib.Core.Path.{◌≡◌, refl, sym, ap, ◌∙◌, subst}
use mathlib.Core.Logic.{◌≢◌}
use mathlib.Core.Bool.{cond, false}
use mathlib.Core.List.{List}
use native.Mathlib.Decide.{ℕ_discrete}
use native.Mathlib.Nat.{le_refl}
use native.Mathlib.Omega.{arith}
use lib.Dec.{eqb}
use lib.IntN.{ℤ}
use lib.ListN.{length, take}
use borrow.Author.Tests.{eq-eqb, ne_eqb, lt-ltb, le-ltb, eqb-false}
use Rattle.laws.proofs.Tests.{or_false₃}
use Rattle.laws.specs.Internal.Steps.{steps}
use Rattle.laws.proofs.Steps.{steps_more, steps_three_on}
use Rattle.laws.proofs.Cases.{cond_keeps}
use Rattle.halfedges.specs.Cage.{NEXT, PREV, marker, cell}
use Rattle.halfedges.proofs.Triangle.{next_below, prev_below}
use Rattle.edgepoints.specs.declared.edges.Corner.{Corner}
use Rattle.edgepoints.specs.declared.edges.Halfedge.{Halfedge}
use Rattle.edgepoints.specs.declared.edges.Triangle.{Triangle}
use Rattle.points.specs.NextPoints.{coordinate, point_of}
use Rattle.points.specs.Operations.{InRange}
use Rattle.points.specs.Internal.Relied.{Cornered}
use Rattle.points.specs.Internal.Cells.{value, put, Near}
use Rattle.edgepoints.specs.Internal.Edges.{Spanned, middle, start, finish, meeting, meet, place, border_edge, inner, inner_edge, AsksInner, step_edge, Asks, corner_of, between, halfedge_of, triangle_of, Readable, border_among, in_turn, AskedInTurn, put_edge, Edged, Started}
use Rattle.points.proofs.Range.{any_in_range}
use Rattle.points.proofs.Only.{Only, only_on, only_wider, only_take, only_steps, put_only}
use Rattle.points.proofs.Holding.{Holds, holds_own, holds_on, point_of_is, near_of, point_same}
use Rattle.points.proofs.Ends.{far_below}

module _ (n : ℕ) (a b : Corner) (l : List ℤ) where
  pub meet_only : Only (3 * n + 3 * a.vertex) (3 * n + 3 * a.vertex + 3) l (meet n a b l)
  unfolding meet
  meet_only = put_only (3 * n + 3 * a.vertex) (meeting a b l (3 * n + 3 * a.vertex)) l

-- what halfedge h leaves in the cells of its edge
unfoldable pub own : ℕ → Halfedge → List ℤ → ℕ → ℤ
own n h l = cond (eqb h.twin marker) (middle h.from h.to) (inner n h l)

module _ (n : ℕ) (h : Halfedge) (l : List ℤ) where
  pub border_way : h.twin ≡ marker → step_edge n h l ≡ border_edge n h l
  unfolding step_edge
  border_way t = rw (eq-eqb h.twin marker t)

  pub inner_way : h.twin ≢ marker → step_edge n h l ≡ inner_edge n h l
  unfolding step_edge
  inner_way t = rw (ne_eqb h.twin marker t)

  pub own_border : (k : ℕ) → h.twin ≡ marker → own n h l k ≡ middle h.from h.to k
  unfolding own
  own_border k t = rw (eq-eqb h.twin marker t)

  pub own_start : (k : ℕ) → h.number ≤ h.twin → h.twin ≢ marker → own n h l k ≡ start h k
  unfolding own
  own_start k le t = rw (ne_eqb h.twin marker t, le-ltb h.twin h.number le)

  pub own_finish : (k : ℕ) → h.number ≤ marker → h.twin < h.number → own n h l k ≡ finish h l (place n h) k
  unfolding own
  own_finish k short lt = rw (ne_eqb h.twin marker (λ m. omega arith), lt-ltb h.twin h.number lt)

  -- among the edges' cells a step changes those of its own edge alone
  pub step-cell : (c k : ℕ) → h.from.vertex < n → h.to.vertex < n → k < 3 → value (step_edge n h l) (6 * n + 3 * c + k) ≡ value (put (place n h) (own n h l) l) (6 * n + 3 * c + k)
  unfolding own inner_edge border_edge
  step-cell c k la lb lk = by (ℕ_discrete h.twin marker)
    where
      by : Dec (h.twin ≡ marker) → value (step_edge n h l) (6 * n + 3 * c + k) ≡ value (put (place n h) (own n h l) l) (6 * n + 3 * c + k)
      by (yes t) =
          rw (border_way t, eq-eqb h.twin marker t)
          ((meet_only n h.to h.from _).other (6 * n + 3 * c + k) (λ x y. omega arith) ∙ (meet_only n h.from h.to _).other (6 * n + 3 * c + k) (λ x y. omega arith))
      by (no t) = rw (inner_way t, ne_eqb h.twin marker t)

  -- the cells that a step can change
  pub step_only : (to : ℕ) → h.from.vertex < n → h.to.vertex < n → place n h + 3 ≤ to → Only (3 * n) to l (step_edge n h l)
  unfolding step_edge inner_edge border_edge
  step_only to la lb le =
      cond_keeps (Only (3 * n) to l) (eqb h.twin marker)
      (λ _. only_on (only_on (edge_cells (middle h.from h.to)) (vertex_cells h.from h.to la _)) (vertex_cells h.to h.from lb _))
      (λ _. edge_cells (inner n h l))
    where
      edge_cells : (g : ℕ → ℤ) → Only (3 * n) to l (put (place n h) g l)
      edge_cells g = only_wider (3 * n) to (omega arith) le (put_only (place n h) g l)

      vertex_cells : (a b : Corner) → a.vertex < n → (m : List ℤ) → Only (3 * n) to m (meet n a b m)
      vertex_cells a b la m = only_wider (3 * n) to (omega arith) (omega arith) (meet_only n a b m)

-- the point of a corner that is read
pub corner_is : {vert : List ℕ} {n : ℕ} {points l : List ℤ} → Cornered vert n → Holds n points l → (h k : ℕ) → h < length vert → k < 3 → value (point_of l (cell vert h)) k ≡ coordinate points k (cell vert h)
corner_is {vert} {n} {points} {l} cornered holds h k b lk = point_of_is l (cell vert h) k lk ∙ holds.same (cell vert h) k (cornered.below h b) lk

-- the same corner, wherever the level's points stand
pub corner_same : {vert : List ℕ} {n : ℕ} {points l : List ℤ} → Cornered vert n → Holds n points l → (h : ℕ) → h < length vert → corner_of vert l h ≡ corner_of vert points h
corner_same {vert} {n} {points} {l} cornered holds h b = λ i. record { vertex = cell vert h; point = point_same holds (cell vert h) (cornered.below h b) i }

-- it can be read, and is in range
pub corner_near : {vert : List ℕ} {n : ℕ} (l : List ℤ) → Cornered vert n → 3 * n ≤ length l → InRange (take (3 * n) l) → (h : ℕ) → h < length vert → (3 * cell vert h + 2 < length l) × Near (point_of l (cell vert h))
corner_near {vert} {n} l cornered room range h b =
    let lv = cornered.below h b in
    (omega arith, near_of l (cell vert h) (λ k lk. rw ((holds_own n l).same (cell vert h) k lv lk) (any_in_range (take (3 * n) l) range (3 * cell vert h + k))))

module _ (twin vert edge : List ℕ) (n : ℕ) where
  -- a table that differs past the level's points alone
  pub edged_on : {to : ℕ} {l m : List ℤ} → 3 * n ≤ length l → Edged twin vert edge n l → Only (3 * n) to l m → Edged twin vert edge n m
  edged_on room g only =
      record {
        cornered = g.cornered;
        twin_long = g.twin_long;
        edge_long = g.edge_long;
        short = g.short;
        room = λ h b. rw only.long (g.room h b);
        in_range = rw (only_take (3 * n) (le_refl _) room only) g.in_range;
      }

  module _ {l : List ℤ} (g : Edged twin vert edge n l) where
    -- a corner's point can be read
    near : (h : ℕ) → h < length vert → (3 * cell vert h + 2 < length l) × Near (point_of l (cell vert h))
    near h b = let room = g.room h b in corner_near l g.cornered (omega arith) g.in_range h b

    pub spanned : (h : ℕ) → h < length vert → Spanned (halfedge_of twin vert edge l h)
    spanned h b =
        record {
          from_near = (near h b).1;
          to_near = (near (NEXT h) (next_below g.cornered.whole b)).1;
          opposite_near = (near (PREV h) (prev_below g.cornered.whole b)).1;
        }

    pub readable : (t : ℕ) → 3 * t + 2 < length vert → Readable twin vert edge l t
    readable t b = record { in_twin = rw g.twin_long b; in_vert = b; in_edge = rw g.edge_long b; pointed = λ h lh. (near h lh).0 }

    -- the same halfedge, wherever the level's points stand
    module _ {points : List ℤ} (holds : Holds n points l) where
      halfedge_same : (h : ℕ) → h < length vert → halfedge_of twin vert edge l h ≡ halfedge_of twin vert edge points h
      halfedge_same h b =
          let same = corner_same g.cornered holds in
          λ i. between twin edge h (same h b i) (same (NEXT h) (next_below g.cornered.whole b) i) (same (PREV h) (prev_below g.cornered.whole b) i)

      pub put_edge_same : (h : ℕ) → h < length vert → (m : List ℤ) → put_edge twin vert edge n l h m ≡ put_edge twin vert edge n points h m
      unfolding put_edge
      put_edge_same h b m = ap (λ x. step_edge n x m) (halfedge_same h b)

  pub put_step_only : (points : List ℤ) (to : ℕ) → Cornered vert n → (h : ℕ) → h < length vert → 6 * n + 3 * cell edge h + 3 ≤ to → (m : List ℤ) → Only (3 * n) to m (put_edge twin vert edge n points h m)
  unfolding put_edge
  put_step_only points to cornered h b le m = step_only n (halfedge_of twin vert edge points h) m to (cornered.below h b) (far_below vert n cornered h b) le

-- halfedge h between the corners that were read
module _ (twin vert edge : List ℕ) (l : List ℤ) (h : ℕ) where
  pub halfedge_is : {i j : ℕ} {a b c : Corner} {r : Halfedge} → NEXT h ≡ i → PREV h ≡ j → a ≡ corner_of vert l h → b ≡ corner_of vert l i → c ≡ corner_of vert l j → r ≡ between twin edge h a b c → r ≡ halfedge_of twin vert edge l h
  halfedge_is next prev ea eb ec e =
      e ∙ (λ x. between twin edge h (ea x) ((eb ∙ ap (corner_of vert l) (sym next)) x) ((ec ∙ ap (corner_of vert l) (sym prev)) x))

-- three halfedges in turn
module _ {asks : Halfedge → List ℤ → Type 0} {f : Halfedge → List ℤ → List ℤ} {x : Triangle} {l : List ℤ} (asked : AskedInTurn asks f x l) {a : List ℤ} (ea : a ≡ f x.first l) where
  pub asked_two : asks x.second a
  asked_two = subst (asks x.second) (sym ea) asked.two

  pub asked_three : {b : List ℤ} → b ≡ f x.second a → asks x.third b
  asked_three eb = subst (asks x.third) (sym (eb ∙ ap (f x.second) ea)) asked.three

  pub turns_are : {b c : List ℤ} → b ≡ f x.second a → c ≡ f x.third b → c ≡ in_turn f x l
  unfolding in_turn
  turns_are eb ec = ec ∙ ap (f x.third) (eb ∙ ap (f x.second) ea)

-- where none of the three is on a border
module _ (n : ℕ) (x : Triangle) (l : List ℤ) (none : border_among x ≡ false) where
  none_among : (x.first.twin ≢ marker) × (x.second.twin ≢ marker) × (x.third.twin ≢ marker)
  unfolding border_among
  none_among = let f = or_false₃ _ _ _ none in (eqb-false _ marker f.0, eqb-false _ marker f.1, eqb-false _ marker f.2)

  one_inner : step_edge n x.first l ≡ inner_edge n x.first l
  one_inner = inner_way n x.first l none_among.0

  two_inner : step_edge n x.second (step_edge n x.first l) ≡ inner_edge n x.second (inner_edge n x.first l)
  two_inner = inner_way n x.second _ none_among.1 ∙ ap (inner_edge n x.second) one_inner

  pub inner_turns : in_turn (inner_edge n) x l ≡ in_turn (step_edge n) x l
  unfolding in_turn
  inner_turns = sym (inner_way n x.third _ none_among.2 ∙ ap (inner_edge n x.third) two_inner)

  pub inner-asked : AskedInTurn (Asks n) (step_edge n) x l → AskedInTurn (AsksInner n) (inner_edge n) x l
  inner-asked asked =
      record {
        one = asked.one.inner_asks;
        two = subst (AsksInner n x.second) one_inner asked.two.inner_asks;
        three = subst (AsksInner n x.third) two_inner asked.three.inner_asks;
      }

-- the loop over the triangles
module _ (twin vert edge : List ℕ) (n : ℕ) (l : List ℤ) (edged : Edged twin vert edge n l) where
  abbrev step : ℕ → List ℤ → List ℤ
  step = put_edge twin vert edge n l

  first_edge : (t : ℕ) → 3 * t + 2 < length vert → 3 * n ≤ length l
  first_edge t b = let room = edged.room (3 * t + 2) b in omega arith

  -- past the level's points, and up to the table's end
  after_only : (i : ℕ) → i ≤ length vert → Only (3 * n) (length l) l (steps i step l)
  after_only = only_steps (3 * n) (length l) (length vert) step l (λ h b m _. let room = edged.room h b in put_step_only twin vert edge n l (length l) edged.cornered h b (omega arith) m)

  held : (i : ℕ) → i ≤ length vert → Holds n l (steps i step l)
  held i b = holds_on (le_refl _) (record { same = λ _ _ _ _. refl }) (after_only i b)

  module _ (t : ℕ) (b : 3 * t + 2 < length vert) where
    abbrev m : List ℤ
    m = steps (3 * t) step l

    edged_now : Edged twin vert edge n m
    edged_now = edged_on twin vert edge n (first_edge t b) edged (after_only (3 * t) (omega arith))

    same : (h : ℕ) → h < length vert → (y : List ℤ) → put_edge twin vert edge n m h y ≡ put_edge twin vert edge n l h y
    same h lh y = put_edge_same twin vert edge n edged_now (held (3 * t) (omega arith)) h lh y

    one_on : steps (3 * t + 1) step l ≡ put_edge twin vert edge n m (3 * t) m
    one_on = steps_more step l (3 * t) ∙ sym (same (3 * t) (omega arith) m)

    two_on : steps (3 * t + 2) step l ≡ put_edge twin vert edge n m (3 * t + 1) (put_edge twin vert edge n m (3 * t) m)
    two_on =
        let e : 3 * t + 2 ≡ 3 * t + 1 + 1 = omega arith in
        ap (λ i. steps i step l) e ∙ steps_more step l (3 * t + 1) ∙ sym (same (3 * t + 1) (omega arith) (steps (3 * t + 1) step l))
        ∙ ap (put_edge twin vert edge n m (3 * t + 1)) one_on

    module _ (started : (h : ℕ) → h < length vert → Started twin edge n h (steps h step l)) where
      asked_at : (h : ℕ) → h < length vert → Asks n (halfedge_of twin vert edge m h) (steps h step l)
      asked_at h lh =
          record {
            in_from = edged.cornered.below h lh;
            in_to = far_below vert n edged.cornered h lh;
            inner_asks = record {
              spanned = spanned twin vert edge n edged_now h lh;
              room = rw (after_only h (omega arith)).long (edged.room h lh);
              begun = started h lh;
            };
          }

      pub triangle_asks : Readable twin vert edge m t × AskedInTurn (Asks n) (step_edge n) (triangle_of twin vert edge m t) m
      unfolding put_edge
      triangle_asks = (
        readable twin vert edge n edged_now t b,
        record {
          one = asked_at (3 * t) (omega arith);
          two = subst (Asks n (halfedge_of twin vert edge m (3 * t + 1))) one_on (asked_at (3 * t + 1) (omega arith));
          three = subst (Asks n (halfedge_of twin vert edge m (3 * t + 2))) two_on (asked_at (3 * t + 2) b);
        },
      )

    pub triangle_same : {y z : List ℤ} → y ≡ m → z ≡ in_turn (step_edge n) (triangle_of twin vert edge y t) y → z ≡ steps (3 * (t + 1)) step l
    unfolding in_turn put_edge
    triangle_same {y} {z} e d =
        steps_three_on step l t refl
        (d ∙ ap (λ y. in_turn (step_edge n) (triangle_of twin vert edge y t) y) e ∙ same (3 * t + 2) b _
        ∙ ap (step (3 * t + 2)) (same (3 * t + 1) (omega arith) _ ∙ ap (step (3 * t + 1)) (same (3 * t) (omega arith) m)))
