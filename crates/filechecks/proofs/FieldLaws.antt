-- Fields that stand in a file, and the checks that find them. Assumes nothing.
--     fields_pass     fields that stand at an offset, and nothing after them, pass the checks there
--     payload_at_lem      and each payload stands where reading looks for it
--     fields_hold     where the checks pass, there stand these fields and nothing after them
--     fields_end      so the file ends with the last
use Prim.Native.Nat.{ℕ, zero, suc, ◌+◌, ◌≤◌, ◌<◌}
use mathlib.Core.Path.{◌≡◌, refl, sym, ap, ap₂, ◌∙◌}
use mathlib.Core.List.{List, [], ◌∷◌, ◌++◌}
use native.Mathlib.Nat.{add-zero, not-suc-le-zero, le_of_suc-le-suc}
use native.Mathlib.Numerals.{add-one}
use native.Mathlib.Omega.{arith}
use lib.ListN.{length, get_or, take, drop, length-append, length-drop, take-append-drop, drop_of_length-le}
use lib.Seq.{get_or-drop, drop-cons, drop-drop, drop_at}
use borrow.Author.Tests.{eq-eqb, le-ltb, ltb-false, eqb-true, not-false}
use Rattle.laws.proofs.Tests.{or_false}
use Rattle.halfedges.specs.Refusals.{DONE, given, first}
use Rattle.halfedges.proofs.Checks.{first_more, done_both, done_passes}
use Rattle.cagefile.specs.Numbers.{u16, u16_at}
use Rattle.cagefile.specs.Fields.{Head, field, fields}
use Rattle.filechecks.specs.Contents.{past, payload_at}
use Rattle.filechecks.specs.FileChecks.{field_checks, fields_checks}
use Rattle.cagefile.proofs.NumberLaws.{Bytes, u16_read, u16-put}
use Rattle.cagefile.proofs.Fits.{Sized, none, more}

-- what the checks of one field ask
pub record FieldAt (f : List ℕ) (at : ℕ) (h : Head) : Type 0 where
  pub whole : past at h ≤ length f
  pub tag : get_or f at 0 ≡ h.tag
  pub size : u16_at f (at + 1) ≡ h.size

module _ (f : List ℕ) (at : ℕ) (h : Head) where
  field_passes : FieldAt f at h → first (field_checks f at h) ≡ DONE
  unfolding field_checks first given
  field_passes a = simp (le-ltb (length f) (at + 3) (omega arith), eq-eqb _ _ a.tag, eq-eqb _ _ a.size, le-ltb _ _ a.whole)

  pub field_at : first (field_checks f at h) ≡ DONE → FieldAt f at h
  unfolding field_checks
  field_at e =
      let a = done_passes _ _ _ refl e in
      let b = done_passes _ _ _ refl a.1 in
      let c = done_passes _ _ _ refl b.1 in
      let d = or_false _ _ b.0 in
      record {
        whole = ltb-false (length f) (past at h) c.0;
        tag = eqb-true _ _ (not-false _ d.0);
        size = eqb-true _ _ (not-false _ d.1);
      }

  module _ (p rest : List ℕ) (l : length p ≡ h.size) (e : drop at f ≡ field h p ++ rest) where
    -- what follows its head
    after : drop (at + 3) f ≡ p ++ rest
    after = sym (drop-drop 3 at f) ∙ ap (drop 3) e

    beyond : drop (past at h) f ≡ rest
    beyond = sym (drop-drop h.size (at + 3) f) ∙ ap (drop h.size) after ∙ drop_at p rest h.size l

    stands : h.size < 65536 → FieldAt f at h
    stands s =
        record {
          whole = omega (arith, length-append p rest, sym (length-drop at f) ∙ ap length e);
          tag = ap (λ k. get_or f k 0) (sym (add-zero at)) ∙ sym (get_or-drop at f 0 0) ∙ ap (λ t. get_or t 0 0) e;
          size = u16_read f (at + 1) h.size (p ++ rest) s (sym (drop-drop 1 at f) ∙ ap (drop 1) e);
        }

  field_holds : Bytes f → FieldAt f at h → drop at f ≡ field h (take h.size (drop (at + 3) f)) ++ drop (past at h) f
  field_holds b a = drop-cons f at 0 (omega arith) ∙ ap₂ ◌∷◌ a.tag (ap (λ k. drop k f) (sym (add-one at)) ∙ sizes)
    where
      payload : drop (at + 1 + 2) f ≡ take h.size (drop (at + 3) f) ++ drop (past at h) f
      payload =
          let e : at + 1 + 2 ≡ at + 3 = omega arith in
          rw (e, ← drop-drop h.size (at + 3) f) (sym (take-append-drop h.size (drop (at + 3) f)))

      sizes : drop (at + 1) f ≡ u16 h.size ++ (take h.size (drop (at + 3) f) ++ drop (past at h) f)
      sizes =
          sym (take-append-drop 2 (drop (at + 1) f))
          ∙ ap₂ ◌++◌ (sym (u16-put f b (at + 1) (omega arith)) ∙ ap u16 a.size) (drop-drop 2 (at + 1) f ∙ payload)

-- the payloads that stand in a file from an offset on
abbrev pub payloads_in : List ℕ → ℕ → List Head → List (List ℕ)
payloads_in f at [] = []
payloads_in f at (h ∷ hs) = take h.size (drop (at + 3) f) ∷ payloads_in f (past at h) hs

module _ (f : List ℕ) where
  pub fields_pass : {hs : List Head} {ps : List (List ℕ)} → Sized hs ps → (at : ℕ) → drop at f ≡ fields hs ps → first (fields_checks f at hs) ≡ DONE
  unfolding fields fields_checks first given
  fields_pass none at e = simp (le-ltb at (length f) (omega (arith, sym (length-drop at f) ∙ ap length e)))
  fields_pass (more {h} {p} {hs} {ps} l s sized) at e =
      first_more (field_checks f at h) _ (field_passes f at h (stands f at h p (fields hs ps) l e s))
      ∙ fields_pass sized (past at h) (beyond f at h p (fields hs ps) l e)

  pub payload_at_lem : {hs : List Head} {ps : List (List ℕ)} → Sized hs ps → (k at : ℕ) → k < length hs
      → drop at f ≡ fields hs ps → drop (payload_at at (take k hs)) f ≡ get_or ps k [] ++ fields (drop (suc k) hs) (drop (suc k) ps)
  unfolding fields payload_at
  payload_at_lem none k at i e = absurd (not-suc-le-zero i)
  payload_at_lem (more {h} {p} {hs} {ps} l s sized) zero at i e = after f at h p (fields hs ps) l e
  payload_at_lem (more {h} {p} {hs} {ps} l s sized) (suc k) at i e = payload_at_lem sized k (past at h) (le_of_suc-le-suc i) (beyond f at h p (fields hs ps) l e)

  pub fields_hold : Bytes f → (hs : List Head) (at : ℕ) → first (fields_checks f at hs) ≡ DONE → drop at f ≡ fields hs (payloads_in f at hs)
  unfolding fields fields_checks
  fields_hold b [] at e = drop_of_length-le f (ltb-false at (length f) (done_passes _ _ _ refl e).0)
  fields_hold b (h ∷ hs) at e =
      let d = done_both (field_checks f at h) (fields_checks f (past at h) hs) e in
      field_holds f at h b (field_at f at h d.0) ∙ ap (λ t. field h (take h.size (drop (at + 3) f)) ++ t) (fields_hold b hs (past at h) d.1)

  pub fields_end : (hs : List Head) (at : ℕ) → at ≤ length f → first (fields_checks f at hs) ≡ DONE → length f + 3 ≡ payload_at at hs
  unfolding fields_checks payload_at
  fields_end [] at l e = omega (arith, ltb-false at (length f) (done_passes _ _ _ refl e).0)
  fields_end (h ∷ hs) at l e =
      let d = done_both (field_checks f at h) (fields_checks f (past at h) hs) e in
      fields_end hs (past at h) (field_at f at h d.0).whole d.1
