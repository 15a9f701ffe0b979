-- Request 07: "the table of occupied places in place order" is the table of those who stand in the plain list. Assumes nothing.
use Rattle.std.specs.Prelude.{◌≡◌, refl, ℕ, zero, suc, ◌+◌, ◌/◌, ◌%◌, ◌<◌, get_or}
use Rattle.std.proofs.Common.{sym, ◌∙◌, subst, arith}
use Rattle.std.proofs.Math.Path.{ap, ap₂}
use Rattle.std.proofs.Math.Option.{Option, some, none}
use mathlib.Core.List.{List, [], ◌∷◌, map}
use Rattle.std.proofs.Math.ListN.{length, length-map}
use Rattle.sets.specs.Sets.{bit, bit-zero, bit-suc, ext}
use Rattle.sets.specs.Members.{cons?, members}
use Rattle.sets.proofs.Laws.Build.{set_of_lt, set_of-bit}
use Rattle.sets.specs.Arrays.{at, tabulate}
use Rattle.roster.specs.declared.Table.{Table}
use Rattle.roster.specs.declared.Reply.{Reply}
use Rattle.crews.specs.Named.{NamedReply}
use Rattle.absences.specs.declared.Way.{Way}
use Rattle.absences.specs.Asked.{PolicyReply}
use Rattle.live.specs.Changes.{Call, after, gathered_of, table_of}
use Rattle.live.specs.Plain.{Somebody, Plain, member, somebodies, held_by, plain_table, plain_numbers, plain_after}
use Rattle.live.specs.Agrees.{Stands, Agrees}
use Rattle.live.proofs.Laws.Always.{agrees}
use Rattle.live.specs.declared.Roster.{Roster}

pub members_in : (k w m : ℕ) → bit m 0 ≡ 1 → members k (suc w) m ≡ k ∷ members (suc k) w (m / 2)
unfolding members cons?
members_in k w m e = let z : m % 2 ≡ 1 = sym (bit-zero m) ∙ e in ap (λ (d : ℕ). cons? d k (members (suc k) w (m / 2))) z

pub members_out : (k w m : ℕ) → bit m 0 ≡ 0 → members k (suc w) m ≡ members (suc k) w (m / 2)
unfolding members cons?
members_out k w m e = let z : m % 2 ≡ 0 = sym (bit-zero m) ∙ e in ap (λ (d : ℕ). cons? d k (members (suc k) w (m / 2))) z

-- what a place has: nothing, or what f has of whoever stands there
abbrev Has_of : (Somebody → ℕ) → Option Somebody → (taken value : ℕ) → Type 0
Has_of f none taken value = taken ≡ 0
Has_of f (some s) taken value = (taken ≡ 1) × (value ≡ f s)

gather : (f : Somebody → ℕ) (from : List ℕ) (k w m : ℕ) (l : Plain) → length l ≡ w
    → ((i : ℕ) → i < w → Has_of f (get_or l i none) (bit m i) (at from (k + i))) → map (at from) (members k w m) ≡ map f (somebodies l)
unfolding members somebodies
gather f from k zero m [] e h = refl
gather f from k (suc w) m [] e h = absurd (omega arith)
gather f from k zero m (x ∷ l) e h = absurd (omega arith)
gather f from k (suc w) m (x ∷ l) e h = go x (h 0 (omega arith)) (gather f from (suc k) w (m / 2) l (omega arith) later)
  where
    later : (i : ℕ) → i < w → Has_of f (get_or l i none) (bit (m / 2) i) (at from (suc k + i))
    later i b =
        let q : suc k + i ≡ k + suc i = omega arith in
        rw q (rw (← bit-suc m i) (h (suc i) (omega arith)))

    go : (x : Option Somebody) → Has_of f x (bit m 0) (at from (k + 0)) → map (at from) (members (suc k) w (m / 2)) ≡ map f (somebodies l)
        → map (at from) (members k (suc w) m) ≡ map f (somebodies (x ∷ l))
    go none s ih = ap (map (at from)) (members_out k w m s) ∙ ih
    go (some t) s ih =
        let q : k ≡ k + 0 = omega arith in
        ap (map (at from)) (members_in k w m s.0) ∙ ap₂ (λ (v : ℕ) (r : List ℕ). v ∷ r) (ap (at from) q ∙ s.1) ih

module _ (r : Roster) (l : Plain) (a : Agrees r l) where
  held_of : (i : ℕ) → (o : Option Somebody) → Stands o (bit r.occupied i) (at r.staff i) (at r.holdings i)
      → Has_of held_by o (bit r.occupied i) (at r.holdings i)
  held_of i none s = s.0
  held_of i (some t) s = (
    s.0,
    ext 32 (at r.holdings i) (held_by t) (a.fits.holdings i) (set_of_lt 32 (λ p. member p t.permissions))
        (λ p b. s.2 p b ∙ sym (set_of-bit 32 (λ p. member p t.permissions) p b)),
  )

  staff_of_lem : (i : ℕ) → (o : Option Somebody) → Stands o (bit r.occupied i) (at r.staff i) (at r.holdings i)
      → Has_of (λ s. s.staff) o (bit r.occupied i) (at r.staff i)
  staff_of_lem i none s = s.0
  staff_of_lem i (some t) s = (s.0, s.1)

  gathered_held : map (at r.holdings) (members 0 64 r.occupied) ≡ map held_by (somebodies l)
  gathered_held =
      gather held_by r.holdings 0 64 r.occupied l a.places
      (λ i b. let q : 0 + i ≡ i = omega arith in rw q (held_of i (get_or l i none) (a.match i b)))

  gathered_staff : map (at r.staff) (members 0 64 r.occupied) ≡ map (λ s. s.staff) (somebodies l)
  gathered_staff =
      gather (λ s. s.staff) r.staff 0 64 r.occupied l a.places
      (λ i b. let q : 0 + i ≡ i = omega arith in rw q (staff_of_lem i (get_or l i none) (a.match i b)))

  pub table_of_plain : table_of r ≡ plain_table l
  unfolding table_of plain_table
  table_of_plain =
      ap₂ (λ (holdings : List ℕ) (rows : ℕ). record { holdings = holdings; rows = rows })
      (ap (λ (h : List ℕ). tabulate 64 (at h)) gathered_held)
      (sym (length-map (members 0 64 r.occupied) (at r.holdings)) ∙ ap length gathered_held ∙ length-map (somebodies l) held_by)

  pub numbers_of_plain : gathered_of r.occupied r.staff ≡ plain_numbers l
  unfolding plain_numbers
  numbers_of_plain = ap (λ (h : List ℕ). tabulate 64 (at h)) gathered_staff

-- after any sequence of calls
pub table_always : (calls : List Call) → table_of (after calls) ≡ plain_table (plain_after calls)
table_always calls = table_of_plain (after calls) (plain_after calls) (agrees calls)

pub numbers_always : (calls : List Call) → gathered_of (after calls).occupied (after calls).staff ≡ plain_numbers (plain_after calls)
numbers_always calls = numbers_of_plain (after calls) (plain_after calls) (agrees calls)

-- "A policy asked of the roster has the reply of the table of occupied places in place order": of the plain list's own table
pub policy_of_plain : (calls : List Call) (way : Way) (P s d t ed allowance : ℕ) (reply : Reply)
    → PolicyReply way (table_of (after calls)) P s d t ed allowance reply
    → PolicyReply way (plain_table (plain_after calls)) P s d t ed allowance reply
policy_of_plain calls way P s d t ed allowance reply h = subst (λ (x : Table). PolicyReply way x P s d t ed allowance reply) (table_always calls) h

pub named_of_plain : (calls : List Call) (P d t ed A allowance : ℕ) (reply : Reply) → NamedReply (table_of (after calls)) P d t ed A allowance reply
    → NamedReply (plain_table (plain_after calls)) P d t ed A allowance reply
named_of_plain calls P d t ed A allowance reply h = subst (λ (x : Table). NamedReply x P d t ed A allowance reply) (table_always calls) h
