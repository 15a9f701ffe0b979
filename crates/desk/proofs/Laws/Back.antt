-- What is given back: of any roster in which nobody stands twice, rows that the writer takes; of a roster just filled, its rows. Assumes nothing.
use Rattle.std.specs.Prelude.{◌≡◌, refl, Bool, List, [], ◌∷◌, map, ℕ, zero, suc, ◌+◌, ◌-◌, ◌^◌, ◌≤◌, ◌<◌, length, get_or}
use Rattle.std.proofs.Common.{sym, ap, ap₂, ◌∙◌, subst, arith, ext_get_or}
use Rattle.std.proofs.Math.Option.{Option, some, none}
use mathlib.Core.List.Memᴰ
use Rattle.std.specs.Int.Count.{ones_in}
use Rattle.std.proofs.lemmas.List.{length-map}
use Rattle.sets.specs.Sets.{bit, Has, bit_below, lt_pow}
use Rattle.sets.proofs.Sets.{ones_bound, ones-width}
use Rattle.sets.specs.Arrays.{tabulate, at}
use Rattle.sets.specs.Laws.Arrays.{length-tabulate, at-tabulate}
use Rattle.book.specs.Layout.{Contents, Own, OwnEdition, form_has_persons, form_has_editions, Each, Below, Ascends, Admitted}
use Rattle.book.proofs.Laws.Old.{ascending}
use Rattle.book.specs.declared.Form.{Form}
use Rattle.book.specs.declared.Form.TheVariants.{Old, Persons, Editions}
use Rattle.book.specs.declared.Row.{Row}
use Rattle.values.specs.Values.{nobody, contents_for, values_for}
use Rattle.values.proofs.Laws.OfBook.{values_for_lem}
use Rattle.live.specs.Plain.{Somebody, Plain}
use Rattle.live.specs.Agrees.{Stands, Agrees}
use Rattle.live.specs.Laws.Gathering.{map_at}
use Rattle.live.specs.Laws.Twice.{Once}
use Rattle.live.specs.declared.Roster.{Roster}
use Rattle.desk.specs.Filled.{seated}
use Rattle.desk.specs.Back.{own_row, form_back, places_by, rows_back, given_back}
use Rattle.desk.proofs.Laws.Order.{Rises, Strict, Distinct, order_same, order_strict, places_many}
use Rattle.desk.specs.Laws.Seated.{nth, first_places, first-fit, occupied_is, staff_at, held_at}

-- ---- any roster in which nobody stands twice

each_map : {A B : Type 0} (P : B → Type 0) (f : A → B) (l : List A) → ((x : A) → P (f x)) → Each P (map f l)
unfolding Each
each_map P f [] h = tt
each_map P f (x ∷ l) h = (h x, each_map P f l h)

strict_ascends : (staff holdings l : List ℕ) → Strict staff l
    → Ascends (λ row. row.staff) (map (λ place. own_row (at staff place) (at holdings place)) l)
unfolding Ascends Below
strict_ascends staff holdings [] s = tt
strict_ascends staff holdings (x ∷ []) s = (tt, tt)
strict_ascends staff holdings (x ∷ (y ∷ l)) s = (s.0 y (Memᴰ.head refl), strict_ascends staff holdings (y ∷ l) s.1)

-- the contents that are given back, in the list's own words
abbrev pub back_of : Roster → Contents → Contents
back_of r v = record { form = form_back v.form; codes = v.codes; rows = rows_back r.staff r.holdings r.occupied; policies = v.policies }

-- such a row is one of any form, and the form given back says the editions
own_any : (f : Form) (staff holdings : ℕ) → Own (form_has_persons f) (own_row staff holdings)
own_any Old staff holdings = refl
own_any Persons staff holdings = tt
own_any Editions staff holdings = tt

editions_back : (f : Form) → form_has_editions f ≡ form_has_editions (form_back f)
editions_back Old = refl
editions_back Persons = refl
editions_back Editions = refl

module _ (r : Roster) (l : Plain) (a : Agrees r l) (once : Once l) where
  somebody : (u : ℕ) (o : Option Somebody) → get_or l u none ≡ o → Stands o (bit r.occupied u) (at r.staff u) (at r.holdings u)
      → Has r.occupied u
      → (s : Somebody) × (get_or l u none ≡ some s) × (s.staff ≡ at r.staff u)
  somebody u none e s h = absurd (omega (arith, s.0))
  somebody u (some t) e s h = (t, e, sym s.1)

  distinct : Distinct r.staff r.occupied
  distinct u v b c x y q =
      let s = somebody u (get_or l u none) refl (a.match u b) x in
      let t = somebody v (get_or l v none) refl (a.match v c) y in
      once u v s.0 t.0 s.1 t.1 (s.2 ∙ q ∙ sym t.2)

  -- "by ascending staff number": so the writer never refuses 15
  pub back_ascends : Ascends (λ row. row.staff) (rows_back r.staff r.holdings r.occupied)
  back_ascends =
      strict_ascends r.staff r.holdings (places_by r.staff r.occupied)
      (order_strict r.staff (ones_in 64 r.occupied) r.occupied a.fits.occupied (ones-width 64 r.occupied a.fits.occupied) distinct)

  back_few : length (rows_back r.staff r.holdings r.occupied) ≤ 64
  back_few =
      omega (
        arith,
        length-map (places_by r.staff r.occupied) (λ place. own_row (at r.staff place) (at r.holdings place)),
        places_many r.staff r.occupied a.fits.occupied,
        ones_bound r.occupied 64 (λ i x. bit_below r.occupied 64 i a.fits.occupied x),
      )

  -- whatever calls it took, the writer takes its rows with a book's codes and policies, if nobody holds a permission that the book does not list
  module _ (v : Contents) (ok : Admitted v) (numbers : (i : ℕ) → at r.staff i < 2 ^ 32)
      (listed : (i : ℕ) → at r.holdings i < 2 ^ length v.codes) where
    pub back_admitted : Admitted (back_of r v)
    back_admitted = record {
      some = ok.some;
      permissions = ok.permissions;
      rows = back_few;
      policies = ok.policies;
      codes = ok.codes;
      codes_ascend = ok.codes_ascend;
      staff = each_map _ _ (places_by r.staff r.occupied) (λ place. numbers place);
      staff_ascends = back_ascends;
      persons = each_map _ _ (places_by r.staff r.occupied) (λ place. numbers place);
      own = each_map _ _ (places_by r.staff r.occupied) (λ place. own_any (form_back v.form) (at r.staff place) (at r.holdings place));
      holdings = each_map _ _ (places_by r.staff r.occupied) (λ place. listed place);
      sound = ok.sound;
      editions = subst (λ (b : Bool). Each (OwnEdition b) v.policies) (editions_back v.form) ok.editions;
    }

    pub back_contents : contents_for (given_back r (values_for v)) ≡ back_of r v
    unfolding given_back values_for
    back_contents = values_for_lem (back_of r v) back_admitted

-- ---- a roster just filled

-- an old row
abbrev own : Row → Row
own row = own_row row.staff row.holdings

own_at : (l : List Row) (i : ℕ) → get_or (map own l) i nobody ≡ own (get_or l i nobody)
own_at [] i = refl
own_at (x ∷ l) zero = refl
own_at (x ∷ l) (suc i) = own_at l i

module _ (rows : List Row) (few : length rows ≤ 64) (up : Ascends (λ row. row.staff) rows) where
  rises : Rises (seated rows).staff (2 ^ length rows - 1)
  rises i j b x y =
      let c = bit_below (2 ^ length rows - 1) (length rows) j (omega (arith, lt_pow (length rows))) y in
      let first = nth nobody rows i (omega (arith, c)) in
      let less = ascending (λ row. row.staff) rows i j (get_or rows i nobody) (get_or rows j nobody) up b first (nth nobody rows j c) in
      omega (arith, less, staff_at rows few i (omega (arith, c)), staff_at rows few j (omega (arith, c)))

  in_order_lem : places_by (seated rows).staff (seated rows).occupied ≡ tabulate (length rows) (λ i. 0 + i)
  in_order_lem =
      let m = 2 ^ length rows - 1 in
      let fit = first-fit (length rows) few in
      ap (places_by (seated rows).staff) (occupied_is rows few)
      ∙ order_same (seated rows).staff (ones_in 64 m) m fit (ones-width 64 m fit) rises
      ∙ first_places (length rows) few

  -- the rows come back, each its own person
  pub rows_back_lem : rows_back (seated rows).staff (seated rows).holdings (seated rows).occupied ≡ map own rows
  rows_back_lem =
      ap (map at_place) in_order_lem
      ∙ ext_get_or nobody (map at_place (tabulate (length rows) (λ i. 0 + i))) (map own rows) (long ∙ sym (length-map rows own))
      (λ i b. here i (omega (arith, long)) ∙ sym (own_at rows i))
    where
      at_place : ℕ → Row
      at_place place = own_row (at (seated rows).staff place) (at (seated rows).holdings place)

      long : length (map at_place (tabulate (length rows) (λ i. 0 + i))) ≡ length rows
      long = length-map (tabulate (length rows) (λ i. 0 + i)) at_place ∙ length-tabulate (length rows) (λ i. 0 + i)

      here : (i : ℕ) → i < length rows → get_or (map at_place (tabulate (length rows) (λ i. 0 + i))) i nobody ≡ own (get_or rows i nobody)
      here i b =
          let z : 0 + i ≡ i = omega arith in
          map_at nobody at_place (tabulate (length rows) (λ i. 0 + i)) i (omega (arith, length-tabulate (length rows) (λ i. 0 + i)))
          ∙ ap at_place (at-tabulate (length rows) (λ i. 0 + i) i b ∙ z)
          ∙ ap₂ own_row (staff_at rows few i (omega arith)) (held_at rows few i (omega arith))
