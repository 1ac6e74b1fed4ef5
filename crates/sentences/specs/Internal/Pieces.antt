-- How the code fills a text: byte by byte. No promise cites this.
use Rattle.std.specs.Prelude.{ℕ, cond, List, [], ◌∷◌, eqb}
use Rattle.text.specs.Lines.{decimal}
use Rattle.sentences.specs.Sentences.{hash}

-- a byte as it stands, or the number that it stands for
abbrev pub piece : ℕ → ℕ → List ℕ
piece byte number = cond (eqb byte hash) (decimal number) (byte ∷ [])
