-- TWIN by the halfedge that is marked where a halfedge starts. Assumes nothing.
--     crossing-far, crossing_self, crossing_from, crossing_to, crossing_is      the outcomes, as the code finds them
--     crossing_twin                                                             undoubled, what is found is the twin
--     marked_back                                                               what is marked runs back, where any halfedge does
use Prim.Native.Nat.{ℕ, ◌≤◌, ◌<◌}
use mathlib.Core.Path.{◌≡◌, sym, ◌∙◌}
use mathlib.Core.Logic.{◌≢◌}
use mathlib.Core.Bool.{true, false, ◌&&◌, true≢false}
use mathlib.Core.List.{List}
use native.Mathlib.Omega.{arith}
use lib.Dec.{ltb}
use lib.ListN.{length}
use borrow.Author.Tests.{lt-ltb, le-ltb, ltb-true}
use Rattle.laws.proofs.Tests.{by-test, and_true, and_false}
use Rattle.alike.specs.Internal.Alike.{Marked, first_like}
use Rattle.halfedges.specs.Cage.{NEXT, marker, cell}
use Rattle.triangles.specs.Plain.{runs, Undoubled, twins, twin_of}
use Rattle.triangles.specs.Internal.Joining.{Ended, crossing}
use Rattle.triangles.proofs.Opposite.{runs_ends, ends_run, Opposite, opposite, are_twins, no_twin_lem, one_runs, twin_is}
use Rattle.triangles.proofs.Doubles.{end_at, first_below, first_ends}

module _ (vert : List ℕ) (h m : ℕ) where
  none : ltb m (length vert) && twins vert h m ≡ false → marker ≡ crossing vert h m
  unfolding crossing
  none e = rw e

  pub crossing-far : length vert ≤ m → marker ≡ crossing vert h m
  crossing-far l = none (rw (le-ltb m (length vert) l))

  not_twins : (Opposite vert h m → ⊥) → marker ≡ crossing vert h m
  not_twins n = none (by-test (twins vert h m) (λ t. absurd (n (opposite vert h m t))) (λ f. rw f (and_false (ltb m (length vert)))))

  pub crossing_self : m ≡ h → marker ≡ crossing vert h m
  crossing_self e = not_twins (λ o. o.other e)

  pub crossing_from : cell vert m ≢ cell vert (NEXT h) → marker ≡ crossing vert h m
  crossing_from n = not_twins (λ o. n o.from)

  pub crossing_to : cell vert (NEXT m) ≢ cell vert h → marker ≡ crossing vert h m
  crossing_to n = not_twins (λ o. n o.to)

  pub crossing_is : m < length vert → Opposite vert h m → m ≡ crossing vert h m
  unfolding crossing
  crossing_is l o = rw (lt-ltb m (length vert) l, are_twins vert h m o)

  -- m runs back from h's end to its start, where any halfedge does
  pub crossing_twin : Undoubled vert → h < length vert → ((k : ℕ) → k < length vert → runs vert (cell vert (NEXT h)) (cell vert h) k ≡ true → (m < length vert) × (runs vert (cell vert (NEXT h)) (cell vert h) m ≡ true)) → crossing vert h m ≡ twin_of vert h
  crossing_twin u l back = by-test (ltb m (length vert) && twins vert h m) some missing
    where
      some : ltb m (length vert) && twins vert h m ≡ true → crossing vert h m ≡ twin_of vert h
      some t =
          let b = and_true (ltb m (length vert)) _ t in
          let o = opposite vert h m b.1 in
          let i = ltb-true m (length vert) b.0 in
          sym (crossing_is i o) ∙ sym (twin_is vert u h m i o)

      -- a twin of h would be m
      other : ltb m (length vert) && twins vert h m ≡ false → (g : ℕ) → g < length vert → Opposite vert h g → ⊥
      other f g lg o =
          let r = back g lg (ends_run vert _ _ g o.from o.to) in
          let e = runs_ends vert _ _ m r.1 in
          let s : m ≡ g = one_runs vert u m g r.0 lg (e.0 ∙ sym o.from) (e.1 ∙ sym o.to) in
          false_true (sym f ∙ here r.0 record { other = λ z. o.other (sym s ∙ z); from = e.0; to = e.1 })
        where
          here : m < length vert → Opposite vert h m → ltb m (length vert) && twins vert h m ≡ true
          here i p = rw (lt-ltb m (length vert) i, are_twins vert h m p)

          false_true : false ≡ true → ⊥
          false_true z = true≢false (sym z)

      missing : ltb m (length vert) && twins vert h m ≡ false → crossing vert h m ≡ twin_of vert h
      missing f = sym (none f) ∙ sym (no_twin_lem vert h (λ g lg. by-test (twins vert h g) (λ t. absurd (other f g lg (opposite vert h g t))) (λ e. e)))

-- at a vertex whose leaving halfedges are marked
pub marked_back : {vert ends : List ℕ} → Ended vert ends → {g : ℕ} {marks : List ℕ} → Marked vert ends g marks → (h : ℕ) → cell vert (NEXT h) ≡ g → (k : ℕ) → k < length vert → runs vert (cell vert (NEXT h)) (cell vert h) k ≡ true → (cell marks (cell vert h) < length vert) × (runs vert (cell vert (NEXT h)) (cell vert h) (cell marks (cell vert h)) ≡ true)
marked_back {vert} {ends} d {g} {marks} m h e k l t =
    let r = runs_ends vert _ _ k t in
    let i = m.each k l (r.0 ∙ e) in
    let s : cell marks (cell vert h) ≡ first_like vert ends k = rw (end_at d k l, r.1) at i in
    let f = first_ends d k l in
    (omega (arith, s, first_below d k l), rw s (ends_run vert _ _ (first_like vert ends k) (f.0 ∙ r.0) (f.1 ∙ r.1)))
