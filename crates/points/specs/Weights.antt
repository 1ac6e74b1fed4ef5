-- Document 01, "Points", and document 02, §4 "The weight from the paper": the weight of one spoke of an inner vertex.
use Rattle.std.specs.Prelude.{ℕ, zero, suc, ◌*◌, ◌^◌, List, [], ◌∷◌, get_or}
use Rattle.points.specs.declared.weights.Weight.{Weight}
use Rattle.points.specs.declared.weights.Weight.TheVariants.{Short, Paper}
use Rattle.points.specs.declared.weights.Share.{Share}

-- "0 short and 1 the paper's", for which any other number stands too
abbrev pub weight_of : ℕ → Weight
weight_of zero = Short
weight_of (suc n) = Paper

abbrev pub weight_number : Weight → ℕ
weight_number Short = 0
weight_number Paper = 1

-- "For a valence from 2 to 32 the weight is a whole number of 2^24ths, nearest to the formula" of rule V.3: "the 31 entries"
abbrev pub entries : List ℕ
entries =
    5111808 ∷ 3145728 ∷ 2031616 ∷ 1410850 ∷ 1048576 ∷ 822502 ∷ 672226 ∷ 566819 ∷ 489521 ∷ 430729 ∷ 384646
    ∷ 347611 ∷ 317220 ∷ 291840 ∷ 270323 ∷ 251848 ∷ 235807 ∷ 221745 ∷ 209313 ∷ 198239 ∷ 188310 ∷ 179354
    ∷ 171233 ∷ 163834 ∷ 157062 ∷ 150842 ∷ 145105 ∷ 139799 ∷ 134874 ∷ 130292 ∷ 126016 ∷ []

-- the entry of valence n, 0 where there is none
abbrev pub entry : ℕ → ℕ
entry zero = 0
entry (suc zero) = 0
entry (suc (suc n)) = get_or entries n 0

-- the valences from 2 to this one have an entry
abbrev pub most_valence : ℕ
most_valence = 32

-- "the short weight 3/(8n) for every valence n"; "Beside document 01's short weight, .. that of source document 002's rule V.3"
abbrev pub share : Weight → ℕ → Share
share Short n = record { part = 3; whole = 8 * n }
share Paper n = record { part = entry n; whole = 2 ^ 24 }
