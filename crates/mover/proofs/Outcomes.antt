-- The reply to a file's bytes, by what the move left. Assumes nothing.
--     moved_says       what is told and what stands at the front is the reply, within what was lent (`says_counts`)
--     front_moved      a buffer that holds more than the longest file that reads holds enough of any: its bytes get the reply of the whole
use Prim.Native.Nat.{ℕ, ◌≤◌, ◌<◌}
use Rattle.std.specs.Prelude.{Result, Ok, Err, IfOk, IfErr}
use mathlib.Core.Path.{◌≡◌, sym, ap, ◌∙◌}
use mathlib.Core.Logic.{◌≢◌}
use mathlib.Core.List.{List, [], ◌∷◌}
use native.Mathlib.Decide.{dec_lt}
use native.Mathlib.Omega.{arith}
use lib.ListN.{length, take, drop, length-append}
use lib.Seq.{take_all, length-take-le}
use borrow.Author.Tests.{ne_eqb}
use Rattle.halfedges.specs.declared.refusal.Refusal.{Refusal}
use Rattle.halfedges.specs.Refusals.{refused as refusals_refused, first, said, filled}
use Rattle.halfedges.proofs.Told.{refused_number}
use Rattle.halfedges.proofs.Checks.{first_refused_before}
use Rattle.cagefile.specs.declared.fields.Form.{Form}
use Rattle.cagefile.specs.declared.fields.Form.TheVariants.{One, Two}
use Rattle.cagefile.specs.Fields.{file}
use Rattle.filechecks.specs.Contents.{cage_in}
use Rattle.filechecks.specs.FileChecks.{file_checks}
use Rattle.filechecks.proofs.Sound.{longest}
use Rattle.filelaws.proofs.Prefix.{too_long, longer_alike}
use Rattle.writing.specs.Writing.{written, wrote}
use Rattle.moves.specs.Moves.{cage_moves, move_checks, move_verdict, move}
use Rattle.moves.proofs.Moved.{roomy_moves}
use Rattle.text.specs.declared.replies.Status.TheVariants.{Answered}
use Rattle.text.specs.declared.replies.Written.{Written}
use Rattle.io.specs.Counts.{IsPrefixLen}
use Rattle.text.specs.Replies.{Reply, refused, status_number, Says}
use Rattle.text.specs.Internal.Put.{Replied}
use Rattle.mover.specs.Moving.{moving}

-- what is told stands within what was lent
pub says_counts : {reply : Reply} {before after : List ℕ} {r : Written} → Says reply before after r → IsPrefixLen r.length after
says_counts {reply} {before} {after} {r} s =
    let fits : r.length ≤ length after = rw s.text (omega (arith, s.ends, length-append reply.text (drop (length reply.text) before))) in
    (fits, sym (length-take-le _ _ fits))

-- the bytes of the longest file
abbrev pub most : ℕ
most = longest Two

module _ (from : Form) (f : List ℕ) where
  roomy_verdict : (to : Form) (lent : List ℕ) → length lent ≡ most → move_verdict from to f lent ≡ first (move_checks from to f)
  roomy_verdict One lent e = roomy_moves from One f lent (omega arith)
  roomy_verdict Two lent e = roomy_moves from Two f lent (omega arith)

module _ (from to : Form) (f : List ℕ) where
  module _ (before between after : List ℕ) (long : length before ≡ most) (r : Written) where
    -- the move told x, and left what stands between
    abbrev Moved : Result ℕ Refusal → Type 0
    Moved x = (wrote x ≡ (move from to f before).answer) × (between ≡ (move from to f before).file)

    verdict : (x : Result ℕ Refusal) → Moved x → (wrote x).verdict ≡ first (move_checks from to f)
    unfolding move written said
    verdict x left = ap (λ s. s.verdict) left.0 ∙ roomy_verdict from f to before long

    refused_says : (q : Refusal) → Moved (Err q) → Replied between 50 (refused (refusals_refused q)) after r → Says (moving from to f) before after r
    unfolding moving move written filled refused
    refused_says q left p =
        let told = verdict (Err q) left in
        let here = ne_eqb (refusals_refused q).number 0 (refused_number q) in
        let same : between ≡ before = left.1 ∙ rw (roomy_verdict from f to before long, ← told, here) in
        record { status = rw (← told, here) p.status; text = rw (← told, here, ← same) p.put.bytes; ends = rw (← told, here) (omega (arith, p.put.ends)) }

    done_says : (n : ℕ) → Moved (Ok n) → (r ≡ record { status = Answered; length = n }) × (after ≡ between) → Says (moving from to f) before after r
    unfolding moving move written said filled
    done_says n left p =
        let told = verdict (Ok n) left in
        let size : n ≡ length (file to (cage_in f)) = ap (λ s. s.values) left.0 ∙ rw (roomy_verdict from f to before long, ← told) in
        record {
          status = rw (← told) (ap (λ w. status_number w.status) p.0);
          text = rw (← told) (p.1 ∙ left.1 ∙ rw (roomy_verdict from f to before long, ← told));
          ends = rw (← told) (ap (λ w. w.length) p.0 ∙ size);
        }

    pub moved_says : (x : Result ℕ Refusal) → Moved x → IfErr x (λ q. Replied between 50 (refused (refusals_refused q)) after r)
        → IfOk x (λ n. (r ≡ record { status = Answered; length = n }) × (after ≡ between)) → Says (moving from to f) before after r
    moved_says (Ok n) left p q = done_says n left q
    moved_says (Err e) left p q = refused_says e left p

  -- a file whose checks refuse it is refused by the move
  refused-first : (first (file_checks (from ∷ []) f)).number ≢ 0 → moving from to f ≡ refused (first (file_checks (from ∷ []) f))
  unfolding moving move_checks
  refused-first n =
      let e = first_refused_before (cage_moves to (cage_in f)) (file_checks (from ∷ []) f) n in
      rw (e, ne_eqb (first (file_checks (from ∷ []) f)).number 0 n)

module _ (from to : Form) (f : List ℕ) (n : ℕ) (enough : most < n) where
  both-refused : n < length f → moving from to (take n f) ≡ moving from to f
  both-refused l =
      let same = longer_alike f n enough (from ∷ []) in
      let long = too_long (from ∷ []) f (omega arith) in
      refused-first from to (take n f) (rw same long) ∙ ap refused same ∙ sym (refused-first from to f long)

  pub front_moved : moving from to (take n f) ≡ moving from to f
  front_moved = by (dec_lt n (length f))
    where
      by : Dec (n < length f) → moving from to (take n f) ≡ moving from to f
      by (yes l) = both-refused l
      by (no l) = ap (moving from to) (take_all n f (omega (arith, l)))
