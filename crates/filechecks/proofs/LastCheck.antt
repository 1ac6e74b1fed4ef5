-- One more check after a list that passes: it is given (`last_given`), or all pass (`last_passes`). Assumes nothing.
use mathlib.Core.Path.{◌≡◌}
use mathlib.Core.Bool.{Bool, true, false}
use mathlib.Core.List.{List, [], ◌∷◌, ◌++◌}
use lib.Dec.{eqb}
use Rattle.halfedges.specs.Refusals.{Verdict, DONE, given, first}
use Rattle.halfedges.proofs.Checks.{passes_before}

module _ (vs : List Verdict) (e : DONE ≡ first vs) (v : Verdict) {test : Bool} where
  pub last_given : eqb v.number 0 ≡ false → test ≡ true → v ≡ first (vs ++ (given test v ∷ []))
  unfolding first given
  last_given r t = rw (← passes_before vs (given test v ∷ []) e, t, r)

  pub last_passes : test ≡ false → DONE ≡ first (vs ++ (given test v ∷ []))
  unfolding first given
  last_passes t = rw (← passes_before vs (given test v ∷ []) e, t)
