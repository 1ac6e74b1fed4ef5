-- Decimal numbers in a text. Assumes nothing.
--     ascii_digit, digit_range                 a digit by the library's test, and its bytes
--     digits_within, digit_below, digits_in_front      how many digits a text starts with
--     no_digit, too_many, nothing_after, more, other_after, too_large, fitting      the outcomes of `number_in`
--     worth_next, worth_grows                  the number that digits make, one after another
--     Within, found_within                     where the text goes on after it
--     past_end, missing_there, found_there, next_fits, Soon, found_soon      a number from a place on
use Prim.Native.Nat.{ℕ, ◌+◌, ◌*◌, ◌-◌, ◌^◌, ◌≤◌, ◌<◌}
use mathlib.Core.Path.{◌≡◌, ap, sym, subst, ◌∙◌}
use mathlib.Core.Bool.{true, not, ◌||◌}
use mathlib.Core.List.{List, [], ◌∷◌}
use native.Mathlib.Nat.{le_refl}
use native.Mathlib.Numerals.{add-one}
use native.Mathlib.Omega.{arith}
use lib.Dec.{eqb, leb, ltb}
use lib.ListN.{length, get_or, take, drop, drop_of_length-le}
use Rattle.std.proofs.lemmas.List.{take_rest}
use lib.Seq.{drop-cons, get_or-take, length-take-le}
use borrow.Author.Tests.{ltb-false, leb-true, leb-false, not-false, lt-ltb, le-ltb, le-leb, lt-leb, eq-eqb, ne_eqb}
use mathlib.Core.Logic.{◌≢◌}
use Rattle.std.specs.Prelude.{Option, Some, None}
use Rattle.laws.proofs.Tests.{and_true, or_false, or_false₃}
use Rattle.laws.proofs.Lowest.{lowest_within, below_lowest}
use Rattle.laws.proofs.Cases.{cond_keeps}
use Rattle.text.specs.declared.numbers.Number.{Number}
use Rattle.text.specs.Numbers.{is_digit, digit_count, worth, numbered, number_in, later, number_at}
use Rattle.std.specs.Option.{option_map}

module _ (text : List ℕ) where
  pub digits_within : digit_count text ≤ length text
  unfolding digit_count
  digits_within = lowest_within (length text) (λ j. not (is_digit (get_or text j 0)))

  pub digit_below : (j : ℕ) → j < digit_count text → is_digit (get_or text j 0) ≡ true
  unfolding digit_count
  digit_below j l = not-false _ (below_lowest (length text) (λ j. not (is_digit (get_or text j 0))) j l)

pub digit_range : (byte : ℕ) → is_digit byte ≡ true → (48 ≤ byte) × (byte ≤ 57)
unfolding is_digit
digit_range byte e = let n = and_true (leb 48 byte) (leb byte 57) e in (leb-true 48 byte n.0, leb-true byte 57 n.1)

pub worth_grows : (n : ℕ) (ds : List ℕ) → n ≤ worth n ds
worth_grows n [] = le_refl _
worth_grows n (d ∷ ds) = omega (arith, worth_grows (10 * n + (d - 48)) ds)

pub worth_next : (ds : List ℕ) (i n : ℕ) → i < length ds → worth n (drop i ds) ≡ worth (10 * n + (get_or ds i 0 - 48)) (drop (i + 1) ds)
worth_next ds i n h = rw (add-one i, drop-cons ds i 0 h)

module _ (text : List ℕ) (after k : ℕ) (e : k ≡ digit_count text) where
  pub digits_in_front : (j : ℕ) → j < length (take k text) → is_digit (get_or (take k text) j 0) ≡ true
  digits_in_front j l =
      let n : length (take k text) ≡ k = length-take-le k text (rw e (digits_within text)) in
      rw (get_or-take k text j 0 (omega arith)) (digit_below text j (omega arith))

  pub no_digit : k ≡ 0 → None ≡ number_in text after
  unfolding number_in
  no_digit z = rw (← e, z)

  module _ (some : k ≢ 0) where
    pub too_many : 20 < k → None ≡ number_in text after
    unfolding number_in
    too_many m = rw (← e, ne_eqb k 0 some, lt-ltb 20 k m)

    module _ (few : k ≤ 20) where
      pub nothing_after : k ≡ length text → None ≡ number_in text after
      unfolding number_in
      nothing_after z = rw (← e, ne_eqb k 0 some, le-ltb 20 k few, le-leb (length text) k (omega arith))

      module _ (other : k ≢ length text) where
        pub more : k < length text
        more = omega (arith, digits_within text)

        pub other_after : get_or text k 0 ≢ after → None ≡ number_in text after
        unfolding number_in
        other_after n = rw (← e, ne_eqb k 0 some, le-ltb 20 k few, lt-leb (length text) k more, ne_eqb (get_or text k 0) after n)

        module _ (q : get_or text k 0 ≡ after) where
          followed : numbered text k ≡ number_in text after
          unfolding number_in
          followed = rw (← e, ne_eqb k 0 some, le-ltb 20 k few, lt-leb (length text) k more, eq-eqb (get_or text k 0) after q)

          pub too_large : (worth 0 (take k text) < 2 ^ 64 → ⊥) → None ≡ number_in text after
          unfolding numbered
          too_large n = rw (← followed, le-ltb (worth 0 (take k text)) (2 ^ 64) (omega arith))

          pub fitting : (value : ℕ) → worth 0 (take k text) < 2 ^ 64 → value ≡ worth 0 (take k text) → Some (record { value = value; next = k + 1 }) ≡ number_in text after
          unfolding numbered
          fitting value l v = rw (← followed, ← v, lt-ltb value (2 ^ 64) (omega arith))

-- the text goes on at most at its end, and at most past twenty digits and a byte
abbrev pub Within : List ℕ → Option Number → Type 0
Within text None = Unit {0}
Within text (Some n) = (n.next ≤ length text) × (n.next ≤ 21)

pub found_within : (text : List ℕ) (after : ℕ) → Within text (number_in text after)
unfolding number_in numbered
found_within text after =
    let k = digit_count text in
    let other = not (eqb (get_or text k 0) after) in
    cond_keeps (Within text) (eqb k 0 || ltb 20 k || leb (length text) k || other) (λ _. tt)
    (λ f.
    let n = (or_false (eqb k 0 || ltb 20 k || leb (length text) k) other f).0 in
    let m = or_false₃ (eqb k 0) (ltb 20 k) (leb (length text) k) n in
    cond_keeps (Within text) (ltb (worth 0 (take k text)) (2 ^ 64))
    (λ _. (omega (arith, leb-false (length text) k m.2), omega (arith, ltb-false 20 k m.1)))
    (λ _. tt))

module _ (text : List ℕ) (at after : ℕ) where
  pub past_end : length text < at → None ≡ number_at text at after
  unfolding number_at number_in digit_count
  past_end l = rw (drop_of_length-le text {i = at} (omega arith))

  -- what the code finds, in the part of the text from the place on
  module _ (rest : List ℕ) (s : rest ≡ take (length text - at) (drop at text)) where
    whole : rest ≡ drop at text
    whole = s ∙ take_rest text at

    pub missing_there : None ≡ number_in rest after → None ≡ number_at text at after
    unfolding number_at
    missing_there e = ap (option_map (later at)) (e ∙ ap (λ t. number_in t after) whole)

    module _ (number : Number) (e : Some number ≡ number_in rest after) where
      pub found_there : Some (later at number) ≡ number_at text at after
      unfolding number_at
      found_there = ap (option_map (later at)) (e ∙ ap (λ t. number_in t after) whole)

      pub next_fits : number.next ≤ length rest
      next_fits = let w : Within rest (Some number) = subst (Within rest) (sym e) (found_within rest after) in w.0

-- the text goes on at most past twenty digits and a byte
abbrev pub Soon : ℕ → Option Number → Type 0
Soon at None = Unit {0}
Soon at (Some n) = n.next ≤ at + 21

pub found_soon : (text : List ℕ) (at after : ℕ) → Soon at (number_at text at after)
unfolding number_at
found_soon text at after = by (number_in (drop at text) after) (found_within (drop at text) after)
  where
    by : (r : Option Number) → Within (drop at text) r → Soon at (option_map (later at) r)
    by None w = tt
    by (Some n) w = omega (arith, w.1)
