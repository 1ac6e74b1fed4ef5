-- The numbers of a payload, put and read back. Assumes nothing.
--     u16_read, u32_read            what was put is read
--     u16-put, u32-put              what is read is put
--     as_twin_stored, stored_as_twin  65535 and the marker
--     signed-twos, twos-signed      two's complement
use Prim.Native.Nat.{ℕ, suc, ◌+◌, ◌-◌, ◌*◌, ◌/◌, ◌%◌, ◌≤◌, ◌<◌}
use mathlib.Core.Path.{◌≡◌, sym, ap, ap₂, ◌∙◌}
use mathlib.Core.Logic.{◌⊎◌, inl, inr}
use mathlib.Core.Bool.{cond}
use mathlib.Core.List.{List, [], ◌∷◌, ◌++◌}
use native.Mathlib.Decide.{dec_lt, ℕ_discrete}
use native.Mathlib.Nat.{add-zero}
use native.Mathlib.Numerals.{add-one}
use native.Mathlib.Omega.{arith}
use lib.Dec.{eqb}
use lib.IntN.{ℤ, pos, negsuc, nat_abs}
use lib.ListN.{length, get_or, take, drop}
use lib.Seq.{get_or-drop, drop-cons, drop-drop, take-add}
use borrow.Author.Tests.{eq-eqb, ne_eqb, lt-ltb, le-ltb}
use Rattle.halfedges.specs.Cage.{marker}
use Rattle.cagefile.specs.Numbers.{u16, u32, twos, no_twin, u16_at, u32_at, as_twin, signed}

-- each is a byte
pub record Bytes (f : List ℕ) : Type 0 where
  pub byte : (i : ℕ) → get_or f i 0 < 256

-- ---- two bytes and four

-- the number at an offset is the first number of what stands from there on
u16_at-drop : (f : List ℕ) (at : ℕ) → u16_at f at ≡ u16_at (drop at f) 0
u16_at-drop f at = rw (get_or-drop at f 0 0, get_or-drop at f 1 0, add-zero)

pub u16_at_small : (f : List ℕ) → Bytes f → (at : ℕ) → u16_at f at < 65536
u16_at_small f b at = omega (arith, b.byte at, b.byte (at + 1))

pub u32_at_small : (f : List ℕ) → Bytes f → (at : ℕ) → u32_at f at < 4294967296
u32_at_small f b at = omega (arith, u16_at_small f b at, u16_at_small f b (at + 2))

pub u16_read : (f : List ℕ) (at n : ℕ) (rest : List ℕ) → n < 65536 → drop at f ≡ u16 n ++ rest → u16_at f at ≡ n
u16_read f at n rest l e = u16_at-drop f at ∙ rw e (omega arith)

u16_of : (low high : ℕ) → low < 256 → high < 256 → u16 (low + 256 * high) ≡ low ∷ high ∷ []
u16_of low high l h =
    let e : (low + 256 * high) % 256 ≡ low = omega arith in
    let d : (low + 256 * high) / 256 ≡ high = omega arith in
    let m : high % 256 ≡ high = omega arith in
    rw (e, d, m)

pub u16-put : (f : List ℕ) → Bytes f → (at : ℕ) → at + 2 ≤ length f → u16 (u16_at f at) ≡ take 2 (drop at f)
u16-put f b at l =
    rw (drop-cons f at 0 (omega arith), drop-cons f (suc at) 0 (omega arith), ← add-one at)
    (u16_of (get_or f at 0) (get_or f (at + 1) 0) (b.byte at) (b.byte (at + 1)))

pub u32_read : (f : List ℕ) (at n : ℕ) (rest : List ℕ) → n < 4294967296 → drop at f ≡ u32 n ++ rest → u32_at f at ≡ n
u32_read f at n rest l e =
    let low : u16_at f at ≡ n % 65536 = u16_read f at (n % 65536) (u16 (n / 65536) ++ rest) (omega arith) e in
    let high : u16_at f (at + 2) ≡ n / 65536 = u16_read f (at + 2) (n / 65536) rest (omega arith) (sym (drop-drop 2 at f) ∙ ap (drop 2) e) in
    omega arith

pub u32-put : (f : List ℕ) → Bytes f → (at : ℕ) → at + 4 ≤ length f → u32 (u32_at f at) ≡ take 4 (drop at f)
u32-put f b at l =
    let p : u16_at f at < 65536 = u16_at_small f b at in
    let q : u16_at f (at + 2) < 65536 = u16_at_small f b (at + 2) in
    let low : u32_at f at % 65536 ≡ u16_at f at = omega arith in
    let high : u32_at f at / 65536 ≡ u16_at f (at + 2) = omega arith in
    ap₂ (λ x y. u16 x ++ u16 y) low high
    ∙ ap₂ ◌++◌ (u16-put f b at (omega arith)) (u16-put f b (at + 2) (omega arith) ∙ ap (take 2) (sym (drop-drop 2 at f)))
    ∙ sym (take-add 2 2 (drop at f))

-- ---- no twin

-- a twin as the file has it
abbrev pub stored : ℕ → ℕ
stored t = cond (eqb t marker) no_twin t

pub stored_small : (t : ℕ) → (t ≡ marker) ⊎ (t < no_twin) → stored t < 65536
stored_small t (inl e) = rw (eq-eqb t marker e) (omega arith)
stored_small t (inr l) = rw (ne_eqb t marker (λ e. omega arith)) (omega arith)

pub as_twin_stored : (t : ℕ) → (t ≡ marker) ⊎ (t < no_twin) → as_twin (stored t) ≡ t
as_twin_stored t (inl e) = rw (eq-eqb t marker e) (sym e)
as_twin_stored t (inr l) = rw (ne_eqb t marker (λ e. omega arith), ne_eqb t no_twin (λ e. omega arith))

pub stored_as_twin : (n : ℕ) → n < 65536 → stored (as_twin n) ≡ n
stored_as_twin n l = by (ℕ_discrete n no_twin)
  where
    by : Dec (n ≡ no_twin) → stored (as_twin n) ≡ n
    by (yes e) = rw (eq-eqb n no_twin e) (sym e)
    by (no d) = rw (ne_eqb n no_twin d, ne_eqb n marker (λ e. omega arith))

-- the marker's last two bytes are those of 65535
pub u16_stored : (t : ℕ) → u16 (stored t) ≡ u16 t
u16_stored t = by (ℕ_discrete t marker)
  where
    by : Dec (t ≡ marker) → u16 (stored t) ≡ u16 t
    by (yes e) = rw (eq-eqb t marker e, e)
    by (no d) = rw (ne_eqb t marker d)

-- ---- two's complement

pub signed-twos : (z : ℤ) → nat_abs z < 2147483648 → signed (twos z) ≡ z
signed-twos (pos n) l = rw (lt-ltb n 2147483648 l)
signed-twos (negsuc n) l =
    let back : 4294967295 - (4294967295 - n) ≡ n = omega arith in
    rw (le-ltb (4294967295 - n) 2147483648 (omega arith), back)

pub twos-signed : (n : ℕ) → n < 4294967296 → twos (signed n) ≡ n
twos-signed n l = by (dec_lt n 2147483648)
  where
    by : Dec (n < 2147483648) → twos (signed n) ≡ n
    by (yes p) = rw (lt-ltb n 2147483648 p)
    by (no p) = rw (le-ltb n 2147483648 (omega (arith, p))) (omega arith)

pub twos_small : (z : ℤ) → nat_abs z < 2147483648 → twos z < 4294967296
twos_small (pos n) l = omega arith
twos_small (negsuc n) l = omega arith
