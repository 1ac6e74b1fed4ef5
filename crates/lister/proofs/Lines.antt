-- The lines of the levels: `level-put`, `level-line` of one, `lines_alike` by other words for B, and of B doubled level by level `few_doubled`,
-- `doubled-next`. Assumes nothing.
use Prim.Native.Nat.{ℕ, ◌+◌, ◌*◌, ◌^◌, ◌≤◌, ◌<◌}
use mathlib.Core.Path.{◌≡◌, sym, subst, ap₂}
use mathlib.Core.List.{List, [], ◌∷◌, ◌++◌}
use native.Mathlib.Nat.{mul-le-mul, mul_assoc, pow-succ', pow-le-pow_right}
use native.Mathlib.Numerals.{add-one}
use native.Mathlib.Omega.{arith}
use lib.ListN.{length}
use Rattle.laws.specs.Below.{end_to_end}
use Rattle.laws.proofs.EndToEnd.{end_to_end-alike}
use Rattle.halfedges.specs.declared.table.Levels.{Levels}
use Rattle.halfedges.specs.Cage.{most_halfedges, F}
use Rattle.text.specs.declared.lines.LevelCounts.{LevelCounts}
use Rattle.text.specs.Lines.{decimal, space, newline, ended, line, level_words}
use Rattle.text.specs.Internal.Put.{Put}
use Rattle.text.specs.Internal.LevelWords.{words_of}
use Rattle.text.proofs.Texts.{put_words}
use Rattle.lister.specs.Listing.{level_line}
use Rattle.lister.specs.Internal.Doubling.{doubled}

pub few_doubled : (b k : ℕ) → b ≤ most_halfedges → k ≤ 7 → doubled b k ≤ 393216
few_doubled b k l m = mul-le-mul (pow-le-pow_right {n = 2} (omega arith) m) l

pub doubled-next : (b k d : ℕ) → d ≡ doubled b k → 2 * d ≡ doubled b (k + 1)
doubled-next b k d e = rw (e, add-one k, pow-succ' 2 k) (sym (mul_assoc 2 (2 ^ k) b))

-- a level's counts with a space after them, and B, which ends the line
pub level-put : {a b c : List ℕ} {i j n m o : ℕ} (k : LevelCounts) (d : ℕ) → i ≤ length a → Put a i m (ended space (words_of k)) b j → Put b j o (line (decimal d ∷ [])) c n
    → Put a i (m + o) (line (words_of k ++ (decimal d ∷ []))) c n
level-put k d = put_words newline (decimal k.level) (decimal k.halfedges ∷ decimal k.edges ∷ decimal (F k.halfedges) ∷ decimal k.vertices ∷ []) (decimal d) []

-- the line that was put is that of level i
pub level-line : {a b : List ℕ} {at m next : ℕ} (l : Levels) (bs : ℕ → ℕ) (i : ℕ) (k : LevelCounts) (d : ℕ) → words_of k ≡ level_words l i → d ≡ bs i
    → Put a at m (line (words_of k ++ (decimal d ∷ []))) b next → Put a at m (level_line l bs i) b next
level-line {a} {b} {at} {m} {next} l bs i k d e f p = subst (λ t. Put a at m t b next) (ap₂ (λ ws n. line (ws ++ (decimal n ∷ []))) e f) p

-- lines by other words for B
pub lines_alike : (l : Levels) (bs cs : ℕ → ℕ) (n : ℕ) → ((k : ℕ) → k < n → bs k ≡ cs k) → end_to_end n (level_line l bs) ≡ end_to_end n (level_line l cs)
lines_alike l bs cs n e = end_to_end-alike (level_line l bs) (level_line l cs) n (λ k h. rw (e k h))
