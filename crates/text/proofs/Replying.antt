-- A reply that was put: `replied_within` in more room, `replied_as` by another name, `replied_whole` as a program promises it. Assumes nothing.
use Prim.Native.Nat.{ℕ, ◌≤◌}
use mathlib.Core.Path.{◌≡◌, sym, subst}
use mathlib.Core.List.{List}
use native.Mathlib.Omega.{arith}
use lib.ListN.{length}
use lib.Seq.{length-take-le}
use Rattle.io.specs.Counts.{IsPrefixLen}
use Rattle.text.specs.declared.replies.Written.{Written}
use Rattle.text.specs.Replies.{Reply, Says}
use Rattle.text.specs.Internal.Put.{Replied}
use Rattle.text.proofs.Texts.{put_within}

module _ {a b : List ℕ} {w : Written} where
  pub replied_within : {m n : ℕ} {r : Reply} → m ≤ n → Replied a m r b w → Replied a n r b w
  replied_within l p = record { put = put_within l p.put; status = p.status }

  pub replied_as : {n : ℕ} {r s : Reply} → r ≡ s → Replied a n r b w → Replied a n s b w
  replied_as {n = n} e p = subst (λ t. Replied a n t b w) e p

  pub replied_whole : {n : ℕ} {r : Reply} → n ≤ length b → Replied a n r b w → Says r a b w × IsPrefixLen w.length b
  replied_whole l p =
      let fits : w.length ≤ length b = omega (arith, p.put.ends, p.put.short) in
      (record { status = p.status; text = p.put.bytes; ends = omega (arith, p.put.ends) }, (fits, sym (length-take-le _ _ fits)))
