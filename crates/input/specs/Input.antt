-- What the answers of the reads say of the input. Nothing here is proved: these are definitions.
use Rattle.std.specs.Prelude.{◌≡◌, ◌⊎◌, true, false, Result, Ok, Err, List, ℕ, zero, suc, ◌+◌, ◌≤◌, ◌<◌, ltb, length, take}
use Rattle.input.specs.declared.Progress.{Progress}
use Rattle.input.specs.declared.Progress.TheVariants.{Whole, More}

-- What a read that was handed n bytes may answer: that it failed, or how many bytes it moved, at most n.
abbrev pub Moved : {E : Type 0} → ℕ → Result ℕ E → Type 0
Moved n (Ok k) = k ≤ n
Moved n (Err e) = Unit {0}

-- So many bytes more, behind those that were there, in a buffer with room for so many. None is the end of the input; and a full buffer is a whole
-- input, however many follow: it has as many as decide.
unfoldable pub grown_by : (room have : ℕ) → ℕ → Progress
grown_by room have zero = Whole have
grown_by room have (suc k) = elim (ltb (have + suc k) room) [ true ↦ More (have + suc k) | false ↦ Whole (have + suc k) ]

-- What a read that answered `got` says of the input: one that failed is a failure, and never the end.
unfoldable pub after_read : {E : Type 0} → (room have : ℕ) → Result ℕ E → Result Progress E
after_read room have (Ok more) = Ok (grown_by room have more)
after_read room have (Err e) = Err e

-- what one read may come to: the input ends where it stood, or the buffer is full, or there is more of it and room is left
abbrev pub Onward : {E : Type 0} → (room have : ℕ) → Result Progress E → Type 0
Onward room have (Err e) = Unit {0}
Onward room have (Ok (Whole n)) = (n ≡ have) ⊎ (n ≡ room)
Onward room have (Ok (More n)) = (have < n) × (n < room)

-- one read: the bytes that were there are as they were
pub record OneRead {E : Type 0} (have : ℕ) (old new : List ℕ) (r : Result Progress E) : Type 0 where
  pub kept : take have new ≡ take have old
  pub long : length new ≡ length old
  pub onward : Onward (length old) have r

-- all reads: what is whole stands at the front of the buffer
abbrev pub Settled : {E : Type 0} → Result ℕ E → List ℕ → Type 0
Settled (Err e) buffer = Unit {0}
Settled (Ok n) buffer = n ≤ length buffer
