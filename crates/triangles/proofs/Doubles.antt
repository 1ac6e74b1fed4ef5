-- The first pair that is on two halfedges, by the first halfedge with each pair. Assumes nothing.
--     ends_long, end_at           the vertex where each halfedge ends
--     first-doubled               a first that is another halfedge has its pair on two
--     lowest-place                the lowest of the firsts that are other halfedges
--     undoubled                   where there is none, no pair is on two
use Prim.Native.Nat.{ℕ, ◌≤◌, ◌<◌}
use mathlib.Core.Path.{◌≡◌, refl, sym, ◌∙◌}
use mathlib.Core.Logic.{◌≢◌, ◌⊎◌, inl, inr}
use mathlib.Core.Bool.{true, false, ◌&&◌}
use mathlib.Core.List.{List}
use native.Mathlib.Omega.{arith}
use lib.Dec.{ltb}
use lib.ListN.{length}
use borrow.Author.Tests.{lt-ltb, ltb-true}
use Rattle.laws.specs.Below.{lowest}
use Rattle.laws.proofs.Tests.{by-test, and_true, any_true, true_any}
use Rattle.laws.proofs.Lowest.{lowest_is, lowest_none, lowest_at_most}
use Rattle.laws.proofs.Tabulate.{length-tabulate, get_d_tabulate}
use Rattle.alike.specs.Internal.Alike.{alike, first_like, Keyed}
use Rattle.alike.proofs.Firsts.{like_group, like_label, like_both, first_like_lem, first_least}
use Rattle.halfedges.specs.Cage.{NEXT, cell}
use Rattle.halfedges.proofs.Triangle.{next_below}
use Rattle.triangles.specs.Plain.{runs, doubled, Undoubled}
use Rattle.triangles.specs.Internal.Joining.{Ended}
use Rattle.triangles.proofs.Opposite.{runs_ends, ends_run}

pub undoubled : (vert : List ℕ) → length vert ≤ lowest (length vert) (doubled vert) → Undoubled vert
undoubled vert e = record { each = λ h l. by-test (doubled vert h) (λ t. absurd (omega (arith, lowest_at_most (length vert) (doubled vert) h l t))) (λ f. f) }

module _ {vert ends : List ℕ} (d : Ended vert ends) where
  pub ends_long : length ends ≡ length vert
  ends_long = rw d.listed (length-tabulate (length vert) (λ h. cell vert (NEXT h)))

  pub end_at : (h : ℕ) → h < length vert → cell ends h ≡ cell vert (NEXT h)
  end_at h l = rw d.listed (get_d_tabulate (length vert) (λ h. cell vert (NEXT h)) h 0 l)

  -- where they start and where they end, as groups and labels
  pub ends_keyed : Keyed vert ends
  ends_keyed =
      record {
        long = ends_long;
        few = omega (arith, d.whole.few);
        group_below = d.small.each;
        label_below = λ h l. rw (end_at h l) (d.small.each (NEXT h) (next_below d.whole.whole l));
      }

  -- halfedges that are alike have the same ends
  like_ends : (h g : ℕ) → h < length vert → g < length vert → alike vert ends h g ≡ true → (cell vert g ≡ cell vert h) × (cell vert (NEXT g) ≡ cell vert (NEXT h))
  like_ends h g l m e = (like_group vert ends h g e, sym (end_at g m) ∙ like_label vert ends h g e ∙ end_at h l)

  ends_like : (h g : ℕ) → h < length vert → g < length vert → cell vert g ≡ cell vert h → cell vert (NEXT g) ≡ cell vert (NEXT h) → alike vert ends h g ≡ true
  ends_like h g l m e f = like_both vert ends h g e (end_at g m ∙ f ∙ sym (end_at h l))

  pub first_below : (h : ℕ) → h < length vert → first_like vert ends h ≤ h
  first_below h l = first_least vert ends h h l (like_both vert ends h h refl refl)

  pub first_ends : (h : ℕ) → h < length vert → (cell vert (first_like vert ends h) ≡ cell vert h) × (cell vert (NEXT (first_like vert ends h)) ≡ cell vert (NEXT h))
  first_ends h l = like_ends h (first_like vert ends h) l (omega (arith, first_below h l)) (first_like_lem vert ends h l)

  pub first-doubled : (h : ℕ) → h < length vert → first_like vert ends h ≢ h → (first_like vert ends h < length vert) × (doubled vert (first_like vert ends h) ≡ true)
  unfolding doubled
  first-doubled h l n =
      let f = first_like vert ends h in
      let r = first_ends h l in
      let b = first_below h l in (
        omega (arith, b),
        true_any (λ g. ltb f g && runs vert (cell vert f) (cell vert (NEXT f)) g) (length vert) h l
            (rw (lt-ltb f h (omega (arith, n, b))) (ends_run vert (cell vert f) (cell vert (NEXT f)) h (sym r.0) (sym r.1))),
      )

  module _ (place : ℕ) (one : (place ≡ length vert) ⊎ ((place < length vert) × (doubled vert place ≡ true))) (least : (k : ℕ) → k < length vert → first_like vert ends k ≢ k → place ≤ first_like vert ends k) where
    -- a doubled halfedge is not below the place
    not_below : (h : ℕ) → h < length vert → doubled vert h ≡ true → place ≤ h
    unfolding doubled
    not_below h l t =
        let g = any_true (λ g. ltb h g && runs vert (cell vert h) (cell vert (NEXT h)) g) (length vert) t in
        let b = and_true (ltb h g.0) _ g.2 in
        let r = runs_ends vert (cell vert h) (cell vert (NEXT h)) g.0 b.1 in
        let f = first_least vert ends g.0 h l (ends_like g.0 h g.1 l (sym r.0) (sym r.1)) in
        let m = ltb-true h g.0 b.0 in
        omega (arith, f, least g.0 g.1 (λ z. omega (arith, f, m, z)))

    lower : (j : ℕ) → j < length vert → j < place → doubled vert j ≡ false
    lower j l m = by-test (doubled vert j) (λ t. absurd (omega (arith, not_below j l t))) (λ f. f)

    pub lowest-place : place ≡ lowest (length vert) (doubled vert)
    lowest-place = by one
      where
        by : (place ≡ length vert) ⊎ ((place < length vert) × (doubled vert place ≡ true)) → place ≡ lowest (length vert) (doubled vert)
        by (inl e) = e ∙ sym (lowest_none (length vert) (doubled vert) (λ j l. lower j l (omega arith)))
        by (inr e) = sym (lowest_is (length vert) (doubled vert) place e.0 e.1 (λ j l. lower j (omega (arith, e.0)) l))
