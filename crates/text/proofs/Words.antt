-- Words with a space after each, and more words after them (`ended_join`). Assumes nothing.
use Prim.Native.Nat.{ℕ}
use mathlib.Core.Path.{◌≡◌, ap, ◌∙◌}
use mathlib.Core.List.{List, [], ◌∷◌, ◌++◌, append_assoc}
use Rattle.text.specs.Lines.{space, ended}

pub ended_join : (after : ℕ) (w : List ℕ) (ws : List (List ℕ)) (v : List ℕ) (vs : List (List ℕ))
    → ended space (w ∷ ws) ++ ended after (v ∷ vs) ≡ ended after ((w ∷ ws) ++ (v ∷ vs))
ended_join after w [] v vs = append_assoc w (space ∷ []) (ended after (v ∷ vs))
ended_join after w (u ∷ us) v vs =
    append_assoc w (space ∷ ended space (u ∷ us)) (ended after (v ∷ vs)) ∙ ap (λ t. w ++ (space ∷ t)) (ended_join after u us v vs)
