-- What the writers of text keep to: no promise of a program cites these.
use Rattle.std.specs.Prelude.{ℕ, ◌+◌, ◌≤◌, ◌≡◌, List, length}
use Rattle.laws.specs.Internal.Parts.{splice}
use Rattle.text.specs.declared.replies.Written.{Written}
use Rattle.text.specs.Replies.{Reply, status_number}

-- a text of at most so many bytes stands from a place on, next is the place after it, and all else is as before
pub record Put (before : List ℕ) (at most : ℕ) (text after : List ℕ) (next : ℕ) : Type 0 where
  pub bytes : after ≡ splice before at text
  pub ends : next ≡ at + length text
  pub short : length text ≤ most

-- a reply's text of at most so many bytes stands at the front, and its length and status are told
pub record Replied (before : List ℕ) (most : ℕ) (reply : Reply) (after : List ℕ) (told : Written) : Type 0 where
  pub put : Put before 0 most reply.text after told.length
  pub status : status_number told.status ≡ reply.status
