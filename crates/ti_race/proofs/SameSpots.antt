-- Two accesses clash in their stored form if and only if they clash in the specification.
use Rattle.std.proofs.Common.{◌≡◌, ◌∙◌, refl, ap, ap₂, sym, subst, ℕ, ◌+◌, ◌==◌, ℤ, Bool, true, false, not, ◌&&◌, ◌||◌, if◌then◌else◌, All, map, filter, reverse, length, slice_get, codes, decimal, List, [], ◌∷◌, ◌++◌, Option, Some, None, arith, eq-eqb, eqb-true}
use Rattle.std.specs.List.{list_any, flat_map}
use Rattle.std.specs.Option.{option_map}
use Rattle.std.specs.Ordering.{int_eq}
use Rattle.std.proofs.lemmas.List.{reverse-append, reverse-reverse, map-append, append-nil, length-map}
use Rattle.std.proofs.lemmas.List.Elements.{filter-append, All-head, All-tail, All-filter}
use Rattle.std.proofs.lemmas.List.Folds.{list_any-append}
use Rattle.ti_base.specs.declared.entry.Entry.{Entry}
use Rattle.ti_base.specs.declared.place.Place.{Place}
use Rattle.ti_base.specs.declared.point.Point.{Point}
use Rattle.ti_base.specs.declared.point.Rect.{Rect}
use Rattle.ti_base.specs.declared.value.Id.{Id}
use Rattle.ti_base.specs.PointSets.{same_number, same_point}
use Rattle.ti_base.specs.Rects.{points_of}
use Rattle.ti_base.specs.Cells.{same_id}
use Rattle.ti_base.proofs.Lemmas.{number_from, number_self, same_from, same_self}
use Rattle.ti_lang.specs.Meaning.Histories.{History, history_of}
use Rattle.ti_lang.specs.Meaning.Spots as told
use Rattle.ti_lang.specs.Meaning.Spots.{uses, clashes_among, races_told, race_line, races_text}
use Rattle.ti_grid.specs.Views.{place_in}
use Rattle.ti_race.specs.declared.spots.Spot.{Spot}
use Rattle.ti_race.specs.declared.spots.Spot.TheVariants.{FieldOf, CellOf, PointOf}
use Rattle.ti_race.specs.declared.spots.Thing.{Thing}
use Rattle.ti_race.specs.declared.spots.Thing.TheVariants.{Made, Untold}
use Rattle.ti_race.specs.declared.spots.Use.{Use}
use Rattle.ti_race.specs.contracts.spots.IdKeyPartialEq.TheImpl as name_eq
use Rattle.ti_race.specs.contracts.spots.ThingPartialEq.TheImpl as thing_eq
use Rattle.ti_race.specs.contracts.spots.PointKeyPartialEq.TheImpl as at_eq
use Rattle.ti_race.specs.Mirrors.AccessTable.{same_spot, clash, racing_in}
use Rattle.ti_race.specs.Mirrors.HistoryIndex.{id_key, point_key, whole_at, IsThing, IsSpot, IsUse, AreUses, HasUses, IsListed, use_line, report_of}
use Rattle.ti_race.proofs.Noting.{int_eq-true}
use Rattle.ti_race.proofs.Seen.{true_false, not_true}
use Rattle.std.proofs.lemmas.Cmp.{int_eq_equiv}

-- ---- names and points

regroup : (a b c d : Bool) → (a && (b && (c && d))) ≡ (a && b && c && d)
regroup true true c d = refl
regroup true false c d = refl
regroup false b c d = refl

names_like : (a b : Id) → (name_eq.ghosts).eq (id_key a) (id_key b) ≡ same_id a b
names_like a b = regroup (a.maker == b.maker) (a.serial == b.serial) (a.owner == b.owner) (a.region == b.region)

numbers_like : (x y : ℤ) → int_eq x y ≡ same_number x y
numbers_like x y = by (int_eq x y) refl
  where
    by : (b : Bool) → int_eq x y ≡ b → int_eq x y ≡ same_number x y
    by true e = e ∙ sym (subst (λ (z : ℤ). same_number x z ≡ true) (int_eq-true x y e) (number_self x))
    by false e = e ∙ sym (not_true (same_number x y) (λ k. true_false (sym (subst (λ (z : ℤ). int_eq x z ≡ true) (number_from x y k) (int_eq_equiv.refl x)) ∙ e)))

points_like : (p q : Point) → (at_eq.ghosts).eq (point_key p) (point_key q) ≡ same_point p q
points_like p q =
    ap (λ b. (p.dim == q.dim) && b) (ap₂ (λ a b. a && b) (numbers_like p.x1 q.x1) (ap₂ (λ a b. a && b) (numbers_like p.x2 q.x2) (numbers_like p.x3 q.x3)))
    ∙ regroup (p.dim == q.dim) (same_number p.x1 q.x1) (same_number p.x2 q.x2) (same_number p.x3 q.x3)

-- ---- places in a list

one_more : (o : Option ℕ) (i : ℕ) → option_map (λ n. n + 1) o ≡ Some i → (n : ℕ) × ((o ≡ Some n) × (i ≡ n + 1))
one_more None i e = absurd (let x = e in cc)
one_more (Some n) i e = (n, (refl, some_same i (n + 1) (sym e)))
  where
    some_same : (a b : ℕ) → Some a ≡ Some b → a ≡ b
    some_same a b e = cc

-- two points at one place are one point
one_place : (ps : List Point) (p q : Point) (i : ℕ) → place_in ps p ≡ Some i → place_in ps q ≡ Some i → same_point p q ≡ true
one_place [] p q i x y = absurd (let z = x in cc)
one_place (r ∷ ps) p q i x y = by (same_point p r) refl (same_point q r) refl x y (λ n. one_place ps p q n)
  where
    some_zero : (i : ℕ) → Some 0 ≡ Some i → i ≡ 0
    some_zero i e = cc

    by : (a : Bool) → same_point p r ≡ a → (b : Bool) → same_point q r ≡ b → (if a then Some 0 else option_map (λ n. n + 1) (place_in ps p)) ≡ Some i
        → (if b then Some 0 else option_map (λ n. n + 1) (place_in ps q)) ≡ Some i
        → ((n : ℕ) → place_in ps p ≡ Some n → place_in ps q ≡ Some n → same_point p q ≡ true) → same_point p q ≡ true
    by true s true t x y rest = subst (λ (z : Point). same_point p z ≡ true) (same_from p r s ∙ sym (same_from q r t)) (same_self p)
    by true s false t x y rest = let k = one_more (place_in ps q) i y in let z = some_zero i x in absurd (omega (arith, z, k.1.1))
    by false s true t x y rest = let k = one_more (place_in ps p) i x in let z = some_zero i y in absurd (omega (arith, z, k.1.1))
    by false s false t x y rest =
        let k = one_more (place_in ps p) i x in
        let l = one_more (place_in ps q) i y in
        let e : l.0 ≡ k.0 = omega (arith, k.1.1, l.1.1) in
        rest k.0 k.1.0 (l.1.0 ∙ ap Some e)

places_like : (ps : List Point) (p q : Point) (i j : ℕ) → place_in ps p ≡ Some i → place_in ps q ≡ Some j → (i == j) ≡ same_point p q
places_like ps p q i j x y = by (i == j) refl
  where
    some_same : (a b : ℕ) → Some a ≡ Some b → a ≡ b
    some_same a b e = cc

    by : (b : Bool) → (i == j) ≡ b → (i == j) ≡ same_point p q
    by true e = e ∙ sym (one_place ps p q i x (y ∙ ap Some (sym (eqb-true i j e))))
    by false e = e ∙ sym (not_true (same_point p q) (λ k. true_false (sym (eq-eqb i j (some_same i j (sym x ∙ ap (place_in ps) (same_from p q k) ∙ y))) ∙ e)))

-- ---- spots

things_like : (t u : Thing) (a b : told.Thing) → IsThing t a → IsThing u b → (thing_eq.ghosts).eq t u ≡ told.same_thing a b
things_like (Made n) (Made m) (told.Made k) (told.Made l) x y = ap₂ (λ i j. i == j) x y
things_like (Untold n) (Untold m) (told.Untold k) (told.Untold l) x y = ap₂ (name_eq.ghosts).eq x y ∙ names_like k l
things_like (Made n) (Untold m) (told.Made k) (told.Untold l) x y = refl
things_like (Untold n) (Made m) (told.Untold k) (told.Made l) x y = refl
things_like (Made n) u (told.Untold k) b x y = absurd x
things_like (Untold n) u (told.Made k) b x y = absurd x
things_like (Made n) (Made m) (told.Made k) (told.Untold l) x y = absurd y
things_like (Made n) (Untold m) (told.Made k) (told.Made l) x y = absurd y
things_like (Untold n) (Made m) (told.Untold k) (told.Untold l) x y = absurd y
things_like (Untold n) (Untold m) (told.Untold k) (told.Made l) x y = absurd y

some_rect : (a b : Rect) → Some a ≡ Some b → a ≡ b
some_rect a b e = cc

cells_like : (h : History) (n m i j k l : ℕ) (p q : Point) → IsSpot h (CellOf n i) (told.ElementOf (told.Made k) p) → IsSpot h (CellOf m j) (told.ElementOf (told.Made l) q)
    → same_spot (CellOf n i) (CellOf m j) ≡ told.same_spot (told.ElementOf (told.Made k) p) (told.ElementOf (told.Made l) q)
cells_like h n m i j k l p q x y = ap₂ (λ a b. (a == b) && (i == j)) x.0 y.0 ∙ by (k == l) refl
  where
    by : (b : Bool) → (k == l) ≡ b → ((k == l) && (i == j)) ≡ ((k == l) && same_point p q)
    by true e =
        let one : y.1.0 ≡ x.1.0 = some_rect y.1.0 x.1.0 (sym y.1.1 ∙ ap (λ (a : ℕ). whole_at a h) (sym (eqb-true k l e)) ∙ x.1.1) in
        ap (λ b. (k == l) && b) (places_like (points_of x.1.0) p q i j x.1.2 (subst (λ (r : Rect). place_in (points_of r) q ≡ Some j) one y.1.2))
    by false e = ap (λ b. b && (i == j)) e ∙ sym (ap (λ b. b && same_point p q) e)

spots_like : (h : History) (s t : Spot) (a b : told.Spot) → IsSpot h s a → IsSpot h t b → same_spot s t ≡ told.same_spot a b
spots_like h (FieldOf t f) (FieldOf u g) (told.FieldOf a k) (told.FieldOf b l) x y = ap₂ (λ c d. c && d) (things_like t u a b x.0 y.0) (ap₂ (λ i j. i == j) x.1 y.1)
spots_like h (CellOf n i) (CellOf m j) (told.ElementOf (told.Made k) p) (told.ElementOf (told.Made l) q) x y = cells_like h n m i j k l p q x y
spots_like h (PointOf n i) (PointOf m j) (told.ElementOf (told.Untold k) p) (told.ElementOf (told.Untold l) q) x y =
    ap₂ (λ c d. c && d) (ap₂ (name_eq.ghosts).eq x.0 y.0 ∙ names_like k l) (ap₂ (at_eq.ghosts).eq x.1 y.1 ∙ points_like p q)
spots_like h (FieldOf t f) (CellOf m j) (told.FieldOf a k) (told.ElementOf b q) x y = refl
spots_like h (FieldOf t f) (PointOf m j) (told.FieldOf a k) (told.ElementOf b q) x y = refl
spots_like h (CellOf n i) (FieldOf u g) (told.ElementOf a p) (told.FieldOf b l) x y = refl
spots_like h (PointOf n i) (FieldOf u g) (told.ElementOf a p) (told.FieldOf b l) x y = refl
spots_like h (CellOf n i) (PointOf m j) (told.ElementOf (told.Made k) p) (told.ElementOf (told.Untold l) q) x y = refl
spots_like h (PointOf n i) (CellOf m j) (told.ElementOf (told.Untold k) p) (told.ElementOf (told.Made l) q) x y = refl
spots_like h (FieldOf t f) v (told.ElementOf a p) b x y = absurd x
spots_like h (CellOf n i) v (told.FieldOf a k) b x y = absurd x
spots_like h (PointOf n i) v (told.FieldOf a k) b x y = absurd x
spots_like h (CellOf n i) v (told.ElementOf (told.Untold k) p) b x y = absurd x
spots_like h (PointOf n i) v (told.ElementOf (told.Made k) p) b x y = absurd x
spots_like h s (FieldOf u g) a (told.ElementOf b q) x y = absurd y
spots_like h s (CellOf m j) a (told.FieldOf b l) x y = absurd y
spots_like h s (PointOf m j) a (told.FieldOf b l) x y = absurd y
spots_like h s (CellOf m j) a (told.ElementOf (told.Untold l) q) x y = absurd y
spots_like h s (PointOf m j) a (told.ElementOf (told.Made l) q) x y = absurd y

-- ---- uses

clash_like : (h : History) (u v : Use) (a b : told.Use) → IsUse h u a → IsUse h v b → clash u v ≡ told.clash a b
clash_like h u v a b x y =
    ap₂ (λ c d. c && d)
    (ap₂ (λ c d. c && d) (ap₂ (λ c d. c && d) (ap₂ (λ i j. not (i == j)) x.proc y.proc) (ap₂ (λ i j. i == j) x.phase y.phase)) (spots_like h u.spot v.spot a.spot b.spot x.spot y.spot))
    (ap₂ (λ c d. c || d) x.writes y.writes)

any_like : (h : History) (u : Use) (a : told.Use) (us : List Use) (all : List told.Use) → IsUse h u a → AreUses h us all → list_any (clash u) us ≡ list_any (told.clash a) all
any_like h u a [] [] x are = refl
any_like h u a (v ∷ us) (b ∷ all) x are = ap₂ (λ c d. c || d) (clash_like h u v a b x are.0) (any_like h u a us all x are.1)
any_like h u a [] (b ∷ all) x are = absurd are
any_like h u a (v ∷ us) [] x are = absurd are

numbers_among : (h : History) (whole : List Use) (told_whole : List told.Use) → AreUses h whole told_whole → (us : List Use) (all : List told.Use) → AreUses h us all
    → map (λ (u : Use). u.number) (filter (λ u. list_any (clash u) whole) us) ≡ map (λ (a : told.Use). a.number) (filter (clashes_among told_whole) all)
numbers_among h whole told_whole every [] [] are = refl
numbers_among h whole told_whole every (u ∷ us) (a ∷ all) are = by (clashes_among told_whole a) refl (numbers_among h whole told_whole every us all are.1)
  where
    same : list_any (clash u) whole ≡ clashes_among told_whole a
    same = any_like h u a whole told_whole are.0 every

    by : (b : Bool) → clashes_among told_whole a ≡ b
        → map (λ (u : Use). u.number) (filter (λ u. list_any (clash u) whole) us) ≡ map (λ (a : told.Use). a.number) (filter (clashes_among told_whole) all)
        → map (λ (u : Use). u.number) (filter (λ u. list_any (clash u) whole) (u ∷ us)) ≡ map (λ (a : told.Use). a.number) (filter (clashes_among told_whole) (a ∷ all))
    by true e rest =
        ap (λ b. map (λ (u : Use). u.number) (if b then u ∷ filter (λ u. list_any (clash u) whole) us else filter (λ u. list_any (clash u) whole) us)) (same ∙ e)
        ∙ ap₂ (λ n ns. n ∷ ns) are.0.number rest
        ∙ sym (ap (λ b. map (λ (a : told.Use). a.number) (if b then a ∷ filter (clashes_among told_whole) all else filter (clashes_among told_whole) all)) e)
    by false e rest =
        ap (λ b. map (λ (u : Use). u.number) (if b then u ∷ filter (λ u. list_any (clash u) whole) us else filter (λ u. list_any (clash u) whole) us)) (same ∙ e)
        ∙ rest
        ∙ sym (ap (λ b. map (λ (a : told.Use). a.number) (if b then a ∷ filter (clashes_among told_whole) all else filter (clashes_among told_whole) all)) e)
numbers_among h whole told_whole every [] (b ∷ all) are = absurd are
numbers_among h whole told_whole every (v ∷ us) [] are = absurd are

-- ---- backwards

any_back : {A : Type 0} (p : A → Bool) (xs : List A) → list_any p (reverse xs) ≡ list_any p xs
any_back p [] = refl
any_back p (x ∷ xs) =
    ap (list_any p) (reverse-append (x ∷ []) xs) ∙ list_any-append p (reverse xs) (x ∷ []) ∙ ap (λ b. b || (p x || false)) (any_back p xs) ∙ turn (list_any p xs) (p x)
  where
    turn : (a b : Bool) → (a || (b || false)) ≡ (b || a)
    turn true true = refl
    turn true false = refl
    turn false true = refl
    turn false false = refl

filter_back : {A : Type 0} (p : A → Bool) (xs : List A) → filter p (reverse xs) ≡ reverse (filter p xs)
filter_back p [] = refl
filter_back p (x ∷ xs) =
    ap (filter p) (reverse-append (x ∷ []) xs) ∙ filter-append p (reverse xs) (x ∷ []) ∙ ap (λ ys. ys ++ filter p (x ∷ [])) (filter_back p xs) ∙ by (p x) refl
  where
    by : (b : Bool) → p x ≡ b → (reverse (filter p xs) ++ filter p (x ∷ [])) ≡ reverse (filter p (x ∷ xs))
    by true e =
        ap (λ b. reverse (filter p xs) ++ (if b then x ∷ [] else [])) e ∙ sym (reverse-append (x ∷ []) (filter p xs)) ∙ sym (ap (λ b. reverse (if b then x ∷ filter p xs else filter p xs)) e)
    by false e = ap (λ b. reverse (filter p xs) ++ (if b then x ∷ [] else [])) e ∙ append-nil (reverse (filter p xs)) ∙ sym (ap (λ b. reverse (if b then x ∷ filter p xs else filter p xs)) e)

map_back : {A B : Type 0} (f : A → B) (xs : List A) → map f (reverse xs) ≡ reverse (map f xs)
map_back f [] = refl
map_back f (x ∷ xs) =
    ap (map f) (reverse-append (x ∷ []) xs) ∙ map-append f (reverse xs) (x ∷ []) ∙ ap (λ ys. ys ++ f x ∷ []) (map_back f xs) ∙ sym (reverse-append (f x ∷ []) (map f xs))

-- the numbers in the order of the uses are those of the uses backwards, turned
numbers_back : (us : List Use) → map (λ (u : Use). u.number) (racing_in us) ≡ reverse (map (λ (u : Use). u.number) (filter (λ u. list_any (clash u) (reverse us)) (reverse us)))
numbers_back us =
    sym (reverse-reverse (map (λ (u : Use). u.number) (racing_in us)))
    ∙ ap reverse (sym (map_back (λ (u : Use). u.number) (racing_in us)) ∙ ap (map (λ (u : Use). u.number)) (sym (filter_back (λ u. list_any (clash u) us) us)
    ∙ ap (λ (p : Use → Bool). filter p (reverse us)) (λ i u. sym (any_back (clash u) us) i)))

-- the races of the uses of entries are those that the entries tell
pub races_like : (es : List Entry) (us : List Use) → HasUses (history_of es) us → map (λ (u : Use). u.number) (racing_in us) ≡ races_told es
races_like es us has = numbers_back us ∙ ap reverse (numbers_among (history_of es) (reverse us) (uses (history_of es)) has (reverse us) (uses (history_of es)) has)

-- ---- the report

line_like : (es : List Entry) (u : Use) → IsListed es u → race_line u.number (slice_get es u.number) ≡ use_line u
line_like es u is =
    ap (race_line u.number) is.1
    ∙ ap₂ (λ (p : ℕ) (at : Place). decimal u.number ++ codes " p" ++ decimal p ++ codes " " ++ decimal at.line ++ codes ":" ++ decimal at.col ++ 10 ∷ []) (sym is.2) (sym is.3)

lines_like : (es : List Entry) (us : List Use) → All (IsListed es) us → flat_map (λ n. race_line n (slice_get es n)) (map (λ (u : Use). u.number) us) ≡ flat_map use_line us
lines_like es [] all = refl
lines_like es (u ∷ us) all = ap₂ (λ (a b : List ℕ). a ++ b) (line_like es u (All-head (IsListed es) u us all)) (lines_like es us (All-tail (IsListed es) u us all))

-- the report on entries, from their uses that stand in a race
pub report_like : (es : List Entry) (us : List Use) → HasUses (history_of es) us → All (IsListed es) us
    → races_text es ≡ report_of us
report_like es us has all =
    ap (λ (ns : List ℕ). codes "races " ++ decimal (length ns) ++ 10 ∷ flat_map (λ n. race_line n (slice_get es n)) ns) (sym (races_like es us has))
    ∙ ap₂ (λ (n : ℕ) (text : List ℕ). codes "races " ++ decimal n ++ 10 ∷ text) (length-map (racing_in us) (λ (u : Use). u.number))
    (lines_like es (racing_in us) (All-filter (λ u. list_any (clash u) us) (IsListed es) us all))
