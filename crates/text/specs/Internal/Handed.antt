-- What is handed on between the streams and a reply: no promise of a program cites these.
use Rattle.std.specs.Prelude.{ℕ, ◌≡◌, List, take, Option, IfSome}
use denote.Ref.{Bor, MutBor}
use Rattle.text.specs.declared.replies.Written.{Written}

-- these are the first bytes of a source, as many as there is room for, where its bytes are known
abbrev pub IsFrontOf : Option (List ℕ) → ℕ → List ℕ → Type 0
IsFrontOf known room text = IfSome known (λ bytes. text ≡ take room bytes)

-- a call was handed this text
pub record HandedText (call : Bor (List ℕ) → Type 0) (text : List ℕ) : Type 0 where
  pub shown : Bor (List ℕ)
  pub called : call shown
  pub shows : shown.now ≡ text

-- `reply` was handed the front of a source and what was lent for its text, left that as it is after, and told so much
pub record HandedFront {O : Type 0} (reply : Bor (List ℕ) → MutBor O → Written → MutBor O → Type 0) (known : Option (List ℕ)) (room : ℕ) (before after : O) (told : Written) : Type 0 where
  pub shown : Bor (List ℕ)
  pub lent : MutBor O
  pub left : MutBor O
  pub called : reply shown lent told left
  pub shows : IsFrontOf known room shown.now
  pub holds : lent.now ≡ before
  pub leaves : left.now ≡ after
