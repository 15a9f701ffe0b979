-- "It writes exactly the one book that reads back to the same values, answers its length": for any values and buffer there is one outcome that
-- `Writes` allows, and what that outcome is. Assumes nothing.
use Rattle.std.specs.Prelude.{◌≡◌, refl, ◌⊎◌, Bool, List, ℕ, ◌+◌, ◌*◌, ◌≤◌, ◌<◌, ltb, length, take, drop, Option, Some, None, Result, Ok, Err}
use Rattle.std.proofs.Common.{sym, ap, ◌∙◌, inl, inr, arith, length-append, length-drop, lt-ltb, le-ltb}
use Rattle.std.proofs.Math.Decide.{dec_lt}
use Rattle.std.proofs.Math.Seq.{take-append_seam}
use Rattle.book.specs.Layout.{Contents, lead, bytes_of, LayoutOf}
use Rattle.book.specs.Reading.{width, rows_of, policies_of, read_of}
use Rattle.book.specs.Parts.{contents_of}
use Rattle.book.specs.Promises.{Bytes, starts_for}
use Rattle.book.proofs.Laws.Books.{layout_good, layout_values, good_layout}
use Rattle.book.proofs.Laws.Longest.{layout_length, good_short}
use Rattle.book.specs.declared.Fault.{Fault}
use Rattle.book.specs.declared.Starts.{Starts}
use Rattle.values.specs.Writing.{not_written, fault_in, longest, Writes}
use Rattle.values.specs.Promises.{Typed, Outcome, outcome_by, outcome_of}
use Rattle.values.specs.Laws.Admitted.{sound_iff_admitted}
use Rattle.values.specs.declared.Unwritten.TheVariants as unwritten
use Rattle.values.specs.declared.NotWritten.{NotWritten}

-- ---- one outcome

-- which of the three it is
pub record Faulted (v : Contents) : Type 0 where
  pub fault : Fault
  pub told : fault_in v ≡ Some fault

pub record Short (v : Contents) (old : List ℕ) : Type 0 where
  pub sound : fault_in v ≡ None
  pub short : length old < length (bytes_of v)

pub record Fitting (v : Contents) (old : List ℕ) : Type 0 where
  pub sound : fault_in v ≡ None
  pub room : length (bytes_of v) ≤ length old

abbrev pub Which : Contents → List ℕ → Type 0
Which v old = Faulted v ⊎ (Short v old ⊎ Fitting v old)

pub which : (v : Contents) (old : List ℕ) → Which v old
which v old = go (fault_in v) refl (dec_lt (length old) (length (bytes_of v)))
  where
    go : (f : Option Fault) → fault_in v ≡ f → Dec (length old < length (bytes_of v)) → Which v old
    go (Some f) e d = inl record { fault = f; told = e }
    go None e (yes l) = inr (inl record { sound = e; short = l })
    go None e (no n) = inr (inr record { sound = e; room = omega arith })

-- what an outcome is
parts : {o : Outcome} {r : Result ℕ NotWritten} {new : List ℕ} → o ≡ record { reply = r; after = new } → (o.reply ≡ r) × (o.after ≡ new)
parts e = (ap (λ (o : Outcome). o.reply) e, ap (λ (o : Outcome). o.after) e)

-- any values and buffer have an outcome that is allowed
pub writes_allowed : (v : Contents) (old : List ℕ) → Writes v old (outcome_of v old).after (outcome_of v old).reply
writes_allowed v old = record {
  faulty = λ f e. parts (by_fault e);
  short = λ e l. parts (by_fault e ∙ by_room (lt-ltb (length old) (length (bytes_of v)) l));
  written = λ e l. parts (by_fault e ∙ by_room (le-ltb (length old) (length (bytes_of v)) l));
}
  where
    by_fault : {o : Option Fault} → fault_in v ≡ o → outcome_of v old ≡ outcome_by o (ltb (length old) (length (bytes_of v))) (bytes_of v) old
    by_fault e = ap (λ (o : Option Fault). outcome_by o (ltb (length old) (length (bytes_of v))) (bytes_of v) old) e

    by_room : {b c : Bool} → b ≡ c → outcome_by None b (bytes_of v) old ≡ outcome_by None c (bytes_of v) old
    by_room e = ap (λ (b : Bool). outcome_by None b (bytes_of v) old) e

-- and only one
pub writes_same : (v : Contents) (old new new' : List ℕ) (r r' : Result ℕ NotWritten) → Writes v old new r → Writes v old new' r' → (r ≡ r') × (new ≡ new')
writes_same v old new new' r r' w w' = go (which v old)
  where
    go : Which v old → (r ≡ r') × (new ≡ new')
    go (inl h) =
        let a = w.faulty h.fault h.told in
        let b = w'.faulty h.fault h.told in
        (a.0 ∙ sym b.0, a.1 ∙ sym b.1)
    go (inr (inl h)) =
        let a = w.short h.sound h.short in
        let b = w'.short h.sound h.short in
        (a.0 ∙ sym b.0, a.1 ∙ sym b.1)
    go (inr (inr h)) =
        let a = w.written h.sound h.room in
        let b = w'.written h.sound h.room in
        (a.0 ∙ sym b.0, a.1 ∙ sym b.1)

-- the buffer is as long as it was
pub length_kept : (v : Contents) (old new : List ℕ) (r : Result ℕ NotWritten) → Writes v old new r → length new ≡ length old
length_kept v old new r w = go (which v old)
  where
    go : Which v old → length new ≡ length old
    go (inl h) = ap length (w.faulty h.fault h.told).1
    go (inr (inl h)) = ap length (w.short h.sound h.short).1
    go (inr (inr h)) =
        let n = length (bytes_of v) in
        ap length (w.written h.sound h.room).1 ∙ length-append (bytes_of v) (drop n old) ∙ omega (arith, length-drop n old, h.room)

-- what is not written is not written for one reason, with one place
pub same_reason : {a b : NotWritten} → ◌≡◌ {A = Result ℕ NotWritten} (Err a) (Err b) → (a.why ≡ b.why) × (a.place ≡ b.place)
same_reason e = let same = err_same e in (ap (λ (x : NotWritten). x.why) same, ap (λ (x : NotWritten). x.place) same)
  where
    err_same : {a b : NotWritten} → ◌≡◌ {A = Result ℕ NotWritten} (Err a) (Err b) → a ≡ b
    err_same h = cc

-- ---- what was written

-- where a length is answered the values have no fault, it is that of the layout, there was room, and the layout stands at the front
pub record IsWritten (v : Contents) (old new : List ℕ) (n : ℕ) : Type 0 where
  pub sound : fault_in v ≡ None
  pub long : n ≡ length (bytes_of v)
  pub room : n ≤ length old
  pub front : take n new ≡ bytes_of v

pub is_written : (v : Contents) (old new : List ℕ) (n : ℕ) → Writes v old new (Ok n) → IsWritten v old new n
is_written v old new n w = go (which v old)
  where
    go : Which v old → IsWritten v old new n
    go (inl h) = let e = (w.faulty h.fault h.told).0 in let z : ◌≡◌ {A = ℕ} 0 1 = cc in absurd (omega arith)
    go (inr (inl h)) = let e = (w.short h.sound h.short).0 in let z : ◌≡◌ {A = ℕ} 0 1 = cc in absurd (omega arith)
    go (inr (inr h)) =
        let a = w.written h.sound h.room in
        let e = a.0 in
        let long : n ≡ length (bytes_of v) = cc in
        record {
          sound = h.sound;
          long = long;
          room = omega (arith, h.room);
          front =
              ap (λ (k : ℕ). take k new) long
              ∙ ap (take (length (bytes_of v))) a.1
              ∙ take-append_seam (bytes_of v) (drop (length (bytes_of v)) old);
        }

written_layout : (v : Contents) (old new : List ℕ) (n : ℕ) → Typed v → Writes v old new (Ok n) → LayoutOf v (take n new)
written_layout v old new n t w =
    let h = is_written v old new n w in
    record { admitted = (sound_iff_admitted v t).0 h.sound; bytes = h.front }

-- "reads back to the same values"
pub reads_back : (v : Contents) (old new : List ℕ) (n : ℕ) → Typed v → Writes v old new (Ok n)
    → (read_of (take n new) ≡ Ok (starts_for v)) × (contents_of (take n new) ≡ v)
reads_back v old new n t w =
    let l = written_layout v old new n t w in
    (layout_good v (take n new) l, layout_values v (take n new) l)

-- "exactly the one book": any good book with these values is what was written
pub the_one_book : (v : Contents) (old new : List ℕ) (n : ℕ) → Writes v old new (Ok n)
    → (book : List ℕ) (s : Starts) → Bytes book → read_of book ≡ Ok s → contents_of book ≡ v → book ≡ take n new
the_one_book v old new n w book s bytes good e =
    (good_layout book s bytes good).bytes ∙ ap bytes_of e ∙ sym (is_written v old new n w).front

-- "answers its length"
pub length_is : (v : Contents) (old new : List ℕ) (n : ℕ) → Typed v → Writes v old new (Ok n)
    → n ≡ length (lead v.form) + 3 + 2 * length v.codes + width (rows_of v.form) * length v.rows + width (policies_of v.form) * length v.policies
length_is v old new n t w =
    let h = is_written v old new n w in
    h.long ∙ layout_length v ((sound_iff_admitted v t).0 h.sound)

-- a buffer as long as the longest book always suffices
pub longest-enough : (v : Contents) (old new : List ℕ) (at : ℕ) → Typed v → longest ≤ length old → Writes v old new (not_written unwritten.Room at) → ⊥
longest-enough v old new at t long w = go (which v old)
  where
    go : Which v old → ⊥
    go (inl h) = let e = (same_reason (w.faulty h.fault h.told).0).0 in let z : ◌≡◌ {A = ℕ} 0 1 = cc in omega arith
    go (inr (inl h)) =
        let l : LayoutOf v (bytes_of v) = record { admitted = (sound_iff_admitted v t).0 h.sound; bytes = refl } in
        omega (arith, good_short v (bytes_of v) l, h.short)
    go (inr (inr h)) = let e = (w.written h.sound h.room).0 in let z : ◌≡◌ {A = ℕ} 0 1 = cc in omega arith
