-- Checks 1 and 15 of the crease table of tables that keep the rules: what they leave of it, `meaning`. Assumes nothing.
use Prim.Native.Nat.{ℕ, ◌<◌}
use mathlib.Core.Path.{◌≡◌, refl}
use mathlib.Core.Logic.{◌↔◌}
use mathlib.Core.Bool.{true, false, not, ◌&&◌}
use mathlib.Core.List.{List}
use native.Mathlib.Omega.{arith}
use lib.Dec.{eqb, ltb}
use lib.ListN.{length}
use borrow.Author.Tests.{eq-eqb, eqb-true, le-ltb, ltb-false, not-false}
use Rattle.laws.proofs.Tests.{or_false, and_true, and_false, by-test, any_true, true_any}
use Rattle.halfedges.specs.Cage.{marker, cell, border, E}
use Rattle.tables.specs.Tables.{Tables}
use Rattle.tables.specs.Ruled.{Shaped, Ruled}
use Rattle.invariance.proofs.Refinable.{H, TWIN, EDGE}
use Rattle.creases.specs.Creases.{most_crease, misshapen_creases, edge_on_border, bad_crease}
use Rattle.sharpness.specs.Kept.{Creased}
use Rattle.sharpness.proofs.Checks.{Passing}

module _ {c : Tables} {v : ℕ} (s : Shaped c) (r : Ruled c v) (creases : List ℕ) where
  passing_creased : Passing c creases → Creased c creases
  unfolding misshapen_creases bad_crease edge_on_border
  passing_creased p =
      record {
        long = eqb-true _ _ (not-false _ p.long);
        most = λ e l. ltb-false most_crease (cell creases e) (parts e l).0;
        border_none = λ h l m. eqb-true _ 0 (not-false _ (rw (on_border_lem h l m) at (parts (EDGE c h) (r.numbered.below h l)).1));
      }
    where
      parts : (e : ℕ) → e < E c.twin → (ltb most_crease (cell creases e) ≡ false) × ((edge_on_border c.twin c.edge e && not (eqb (cell creases e) 0)) ≡ false)
      parts e l = or_false (ltb most_crease (cell creases e)) (edge_on_border c.twin c.edge e && not (eqb (cell creases e) 0)) (p.clean e l)

      on_border_lem : (h : ℕ) → h < H c → TWIN c h ≡ marker → edge_on_border c.twin c.edge (EDGE c h) ≡ true
      on_border_lem h l m = true_any _ (length c.edge) h (omega (arith, s.edge_long)) (rw (eq-eqb (TWIN c h) marker m) (eq-eqb (EDGE c h) (EDGE c h) refl))

  creased_passing : Creased c creases → Passing c creases
  unfolding misshapen_creases bad_crease edge_on_border
  creased_passing p =
      record {
        long = rw (eq-eqb (length creases) (E c.twin) p.long);
        clean = λ e l. rw (le-ltb most_crease (cell creases e) (p.most e l)) (by-test (edge_on_border c.twin c.edge e) (on e) (λ f. rw f));
      }
    where
      on : (e : ℕ) → edge_on_border c.twin c.edge e ≡ true → (edge_on_border c.twin c.edge e && not (eqb (cell creases e) 0)) ≡ false
      on e t =
          let (h, l, both) = any_true (λ h. border c.twin h && eqb (EDGE c h) e) (length c.edge) t in
          let (b, i) = and_true (border c.twin h) (eqb (EDGE c h) e) both in
          let z : cell creases e ≡ 0 = rw (eqb-true (EDGE c h) e i) at (p.border_none h (omega (arith, s.edge_long)) (eqb-true _ marker b)) in
          rw (eq-eqb (cell creases e) 0 z) (and_false (edge_on_border c.twin c.edge e))

  pub meaning : Passing c creases ↔ Creased c creases
  meaning = (passing_creased, creased_passing)
