-- Document 01, "Why a cage is sent back": rule 7, the fan.
use Rattle.std.specs.Prelude.{ℕ, zero, suc, ◌<◌, Bool, not, ◌&&◌, ◌||◌, ◌≢◌, List, eqb, length}
use Rattle.laws.specs.Below.{any}
use Rattle.halfedges.specs.Cage.{PREV, marker, cell}
use Rattle.tables.specs.Tables.{leaves}

-- "link halfedge h with TWIN(PREV(h)) where that exists"
abbrev pub link : List ℕ → ℕ → ℕ
link twin h = cell twin (PREV h)

-- "joined by such links, followed either way"
pub data Joined (twin : List ℕ) : ℕ → ℕ → Type 0 where
  itself : (h : ℕ) → Joined twin h h
  linked : (h : ℕ) → h < length twin → link twin h ≢ marker → Joined twin h (link twin h)
  back : {g h : ℕ} → Joined twin g h → Joined twin h g
  on : {g h k : ℕ} → Joined twin g h → Joined twin h k → Joined twin g k

-- joined by at most n links, as a test: h is met from g by following them
unfoldable pub met : List ℕ → ℕ → ℕ → ℕ → Bool
met twin zero g h = eqb g h
met twin (suc n) g h = eqb g h || not (eqb (link twin g) marker) && met twin n (link twin g) h

-- one is met from the other
unfoldable pub joined : List ℕ → ℕ → ℕ → Bool
joined twin g h = met twin (length twin) g h || met twin (length twin) h g

-- 7 "the corners at a vertex are not one fan": two halfedges leave v and are not joined
unfoldable pub not_one_fan : List ℕ → List ℕ → ℕ → Bool
not_one_fan twin vert v =
    any (length vert) (λ g. any (length vert) (λ h. leaves vert v g && leaves vert v h && not (joined twin g h)))
