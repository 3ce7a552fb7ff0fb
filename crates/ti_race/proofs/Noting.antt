-- One more access updates the records of memory locations correctly.
use Rattle.std.proofs.Common.{◌≡◌, ℕ, ℤ, ◌==◌, Bool, true, false, not, ◌&&◌, ◌||◌, if◌then◌else◌, filter, List, [], ◌∷◌, ◌++◌, Option, Some, refl, ap, ap₂, sym, ◌∙◌, subst, eq-eqb, eqb-true}
use Rattle.std.specs.List.{list_any}
use Rattle.std.proofs.lemmas.List.Folds.{list_any-append}
use Rattle.std.specs.HashMap.{HashMap, get, Updates}
use Rattle.std.specs.Ordering.{int_eq}
use Rattle.std.specs.Cmp.{signed_Decides}
use Rattle.std.proofs.lemmas.Cmp.{int_eq_equiv}
use Rattle.ti_race.specs.declared.spots.Use.{Use}
use Rattle.ti_race.specs.declared.spots.IdKey.{IdKey}
use Rattle.ti_race.specs.declared.spots.PointKey.{PointKey}
use Rattle.ti_race.specs.declared.spots.Thing.{Thing}
use Rattle.ti_race.specs.declared.spots.Thing.TheVariants.{Made, Untold}
use Rattle.ti_race.specs.declared.spots.Spot.{Spot}
use Rattle.ti_race.specs.declared.spots.Spot.TheVariants.{FieldOf, CellOf, PointOf}
use Rattle.ti_race.specs.contracts.spots.ThingPartialEq.TheImpl as thing_eq
use Rattle.ti_race.specs.declared.table.Procs.{Procs}
use Rattle.ti_race.specs.declared.table.Accessors.{Accessors}
use Rattle.ti_race.specs.Mirrors.AccessTable.{same_spot, clash, others, LocationKey, same_location_key, access_key, users_in, writers_in, used_by_others, written_by_others, racing_by, IsTableOf}

or_none : (a : Bool) → a ≡ (a || false)
or_none true = refl
or_none false = refl

both_left : (a b : Bool) → (a && b) ≡ true → a ≡ true
both_left true b k = refl
both_left false b k = k

both_right : (a b : Bool) → (a && b) ≡ true → b ≡ true
both_right true b k = k
both_right false b k = cc

pub int_eq-true : (x y : ℤ) → int_eq x y ≡ true → x ≡ y
int_eq-true x y k = (signed_Decides x y).0 k

abbrev pub same_name : IdKey → IdKey → Bool
same_name a b = a.maker == b.maker && (a.serial == b.serial && (a.owner == b.owner && a.region == b.region))

pub name_same : (a b : IdKey) → same_name a b ≡ true → a ≡ b
name_same a b k =
    let x = both_right (a.maker == b.maker) _ k in
    let y = both_right (a.serial == b.serial) _ x in λ i. record {
      maker = eqb-true a.maker b.maker (both_left (a.maker == b.maker) _ k) i;
      serial = eqb-true a.serial b.serial (both_left (a.serial == b.serial) _ x) i;
      owner = eqb-true a.owner b.owner (both_left (a.owner == b.owner) _ y) i;
      region = eqb-true a.region b.region (both_right (a.owner == b.owner) _ y) i;
    }

at_same : (a b : PointKey) → (a.dim == b.dim && (int_eq a.x1 b.x1 && (int_eq a.x2 b.x2 && int_eq a.x3 b.x3))) ≡ true → a ≡ b
at_same a b k =
    let x = both_right (a.dim == b.dim) _ k in
    let y = both_right (int_eq a.x1 b.x1) _ x in λ i. record {
      dim = eqb-true a.dim b.dim (both_left (a.dim == b.dim) _ k) i;
      x1 = int_eq-true a.x1 b.x1 (both_left (int_eq a.x1 b.x1) _ x) i;
      x2 = int_eq-true a.x2 b.x2 (both_left (int_eq a.x2 b.x2) _ y) i;
      x3 = int_eq-true a.x3 b.x3 (both_right (int_eq a.x2 b.x2) _ y) i;
    }

thing_same : (a b : Thing) → (thing_eq.ghosts).eq a b ≡ true → a ≡ b
thing_same (Made m) (Made n) k = ap Made (eqb-true m n k)
thing_same (Untold a) (Untold b) k = ap Untold (name_same a b k)
thing_same (Made m) (Untold b) k = cc
thing_same (Untold a) (Made n) k = cc

spot_same : (a b : Spot) → same_spot a b ≡ true → a ≡ b
spot_same (FieldOf t f) (FieldOf u g) k = ap (λ x. FieldOf x f) (thing_same t u (both_left ((thing_eq.ghosts).eq t u) _ k)) ∙ ap (FieldOf u) (eqb-true f g (both_right ((thing_eq.ghosts).eq t u) _ k))
spot_same (CellOf m i) (CellOf n j) k = ap (λ x. CellOf x i) (eqb-true m n (both_left (m == n) _ k)) ∙ ap (CellOf n) (eqb-true i j (both_right (m == n) _ k))
spot_same (PointOf a p) (PointOf b q) k = ap (λ x. PointOf x p) (name_same a b (both_left (same_name a b) _ k)) ∙ ap (PointOf b) (at_same p q (both_right (same_name a b) _ k))
spot_same (FieldOf t f) (CellOf n j) k = cc
spot_same (FieldOf t f) (PointOf b q) k = cc
spot_same (CellOf m i) (FieldOf u g) k = cc
spot_same (CellOf m i) (PointOf b q) k = cc
spot_same (PointOf a p) (FieldOf u g) k = cc
spot_same (PointOf a p) (CellOf n j) k = cc

pub name_self : (a : IdKey) → same_name a a ≡ true
name_self a = ap₂ (λ x y. x && y) (eq-eqb a.maker a.maker refl)
    (ap₂ (λ x y. x && y) (eq-eqb a.serial a.serial refl) (ap₂ (λ x y. x && y) (eq-eqb a.owner a.owner refl)
    (eq-eqb a.region a.region refl)))

pub at_self : (p : PointKey) → (p.dim == p.dim && (int_eq p.x1 p.x1 && (int_eq p.x2 p.x2 && int_eq p.x3 p.x3))) ≡ true
at_self p = ap₂ (λ x y. x && y) (eq-eqb p.dim p.dim refl) (ap₂ (λ x y. x && y) (int_eq_equiv.refl p.x1) (ap₂ (λ x y. x && y) (int_eq_equiv.refl p.x2) (int_eq_equiv.refl p.x3)))

thing_self : (a : Thing) → (thing_eq.ghosts).eq a a ≡ true
thing_self (Made m) = eq-eqb m m refl
thing_self (Untold a) = name_self a

spot_self : (a : Spot) → same_spot a a ≡ true
spot_self (FieldOf t f) = ap₂ (λ x y. x && y) (thing_self t) (eq-eqb f f refl)
spot_self (CellOf m i) = ap₂ (λ x y. x && y) (eq-eqb m m refl) (eq-eqb i i refl)
spot_self (PointOf a p) = ap₂ (λ x y. x && y) (name_self a) (at_self p)

spot_turned : (a b : Spot) → same_spot a b ≡ same_spot b a
spot_turned a b = by (same_spot a b) refl (same_spot b a) refl
  where
    by : (x : Bool) → same_spot a b ≡ x → (y : Bool) → same_spot b a ≡ y → same_spot a b ≡ same_spot b a
    by true p y q = subst (λ c. same_spot a c ≡ same_spot c a) (spot_same a b p) refl
    by false p true q = subst (λ c. same_spot c b ≡ same_spot b c) (spot_same b a q) refl
    by false p false q = p ∙ sym q

pub key_same : (a b : LocationKey) → same_location_key a b ≡ true → a ≡ b
key_same a b k = λ i. (spot_same a.0 b.0 (both_left (same_spot a.0 b.0) _ k) i, eqb-true a.1 b.1 (both_right (same_spot a.0 b.0) _ k) i)

turned : (a b : ℕ) → (a == b) ≡ (b == a)
turned a b = by (a == b) refl (b == a) refl
  where
    by : (x : Bool) → (a == b) ≡ x → (y : Bool) → (b == a) ≡ y → (a == b) ≡ (b == a)
    by true p y q = p ∙ sym (eq-eqb b a (sym (eqb-true a b p)))
    by false p true q = eq-eqb a b (sym (eqb-true b a q)) ∙ sym q
    by false p false q = p ∙ sym q

-- a value at a key, which comes from the old one there by a test more
pub updated : {S : Type 0} (part : Option Accessors → Option Procs) (m n : HashMap LocationKey Accessors S) (k : LocationKey) (w : Accessors) (new : ℕ → Bool) → Updates same_location_key m n k (Some w)
    → ((i : ℕ) → others (part (Some w)) i ≡ (others (part (get same_location_key m k)) i || new i))
    → (key : LocationKey) (i : ℕ) → others (part (get same_location_key n key)) i ≡ (others (part (get same_location_key m key)) i || (same_location_key k key && new i))
updated part m n k w new u h key i = by (same_location_key k key) refl
  where
    by : (b : Bool) → same_location_key k key ≡ b → others (part (get same_location_key n key)) i ≡ (others (part (get same_location_key m key)) i || (same_location_key k key && new i))
    by true z =
        let same : k ≡ key = key_same k key z in
        subst (λ q. others (part (get same_location_key n q)) i ≡ (others (part (get same_location_key m q)) i || (same_location_key k key && new i))) same
        (ap (λ o. others (part o) i) u.1 ∙ h i ∙ ap (λ b. others (part (get same_location_key m k)) i || (b && new i)) (sym z))
    by false z =
        ap (λ o. others (part o) i) (u.2 key z) ∙ or_none _ ∙ ap (λ b. others (part (get same_location_key m key)) i || (b && new i)) (sym z)

-- ---- one use more

one_more : (test : Use → Bool) (us : List Use) (u : Use) → list_any test (us ++ u ∷ []) ≡ (list_any test us || test u)
one_more test us u = list_any-append test us (u ∷ []) ∙ ap (λ b. list_any test us || b) (sym (or_none (test u)))

-- the table tells of one use more, where it is noted
pub tells_more : {S : Type 0} (m n : HashMap LocationKey Accessors S) (us : List Use) (u : Use)
    → ((key : LocationKey) (i : ℕ) → others (users_in (get same_location_key n key)) i ≡ (others (users_in (get same_location_key m key)) i || (same_location_key (access_key u) key && not (u.proc == i))))
    → ((key : LocationKey) (i : ℕ) → others (writers_in (get same_location_key n key)) i ≡ (others (writers_in (get same_location_key m key)) i || (same_location_key (access_key u) key && (u.writes && not (u.proc == i)))))
    → IsTableOf m us → IsTableOf n (us ++ u ∷ [])
tells_more m n us u f g t key i = (
  f key i ∙ ap (λ b. b || (same_location_key (access_key u) key && not (u.proc == i))) (t key i).0 ∙ sym (one_more (λ (w : Use). same_location_key (access_key w) key && not (w.proc == i)) us u),
  g key i ∙ ap (λ b. b || (same_location_key (access_key u) key && (u.writes && not (u.proc == i)))) (t key i).1 ∙ sym (one_more (λ (w : Use). same_location_key (access_key w) key && (w.writes && not (w.proc == i))) us u),
)

-- ---- what the table says

clash_writing : (u : Use) → u.writes ≡ true → (us : List Use) → list_any (clash u) us ≡ used_by_others us (access_key u) u.proc
clash_writing u k [] = refl
clash_writing u k (w ∷ us) = ap₂ (λ a b. a || b) one (clash_writing u k us)
  where
    one : clash u w ≡ (same_location_key (access_key w) (access_key u) && not (w.proc == u.proc))
    one =
        ap (λ b. not (u.proc == w.proc) && u.phase == w.phase && same_spot u.spot w.spot && (b || w.writes)) k
        ∙ ap₂ (λ a b. not a && b && same_spot u.spot w.spot && true) (turned u.proc w.proc) (turned u.phase w.phase)
        ∙ ap (λ b. not (w.proc == u.proc) && w.phase == u.phase && b && true) (spot_turned u.spot w.spot)
        ∙ order (not (w.proc == u.proc)) (w.phase == u.phase) (same_spot w.spot u.spot)
      where
        order : (a b c : Bool) → (a && b && c && true) ≡ (c && b && a)
        order true true true = refl
        order true true false = refl
        order true false true = refl
        order true false false = refl
        order false true true = refl
        order false true false = refl
        order false false true = refl
        order false false false = refl

clash_reading : (u : Use) → u.writes ≡ false → (us : List Use) → list_any (clash u) us ≡ written_by_others us (access_key u) u.proc
clash_reading u k [] = refl
clash_reading u k (w ∷ us) = ap₂ (λ a b. a || b) one (clash_reading u k us)
  where
    one : clash u w ≡ (same_location_key (access_key w) (access_key u) && (w.writes && not (w.proc == u.proc)))
    one =
        ap (λ b. not (u.proc == w.proc) && u.phase == w.phase && same_spot u.spot w.spot && (b || w.writes)) k
        ∙ ap₂ (λ a b. not a && b && same_spot u.spot w.spot && w.writes) (turned u.proc w.proc) (turned u.phase w.phase)
        ∙ ap (λ b. not (w.proc == u.proc) && w.phase == u.phase && b && w.writes) (spot_turned u.spot w.spot)
        ∙ order (not (w.proc == u.proc)) (w.phase == u.phase) (same_spot w.spot u.spot) w.writes
      where
        order : (a b c d : Bool) → (a && b && c && d) ≡ (c && b && (d && a))
        order true true true true = refl
        order true true true false = refl
        order true true false d = refl
        order true false true d = refl
        order true false false d = refl
        order false true true true = refl
        order false true true false = refl
        order false true false d = refl
        order false false true d = refl
        order false false false d = refl

racing_is : {S : Type 0} (table : HashMap LocationKey Accessors S) (us : List Use) → IsTableOf table us → (u : Use) → racing_by table u ≡ list_any (clash u) us
racing_is table us t u = by u.writes refl
  where
    by : (b : Bool) → u.writes ≡ b → (if b then others (users_in (get same_location_key table (access_key u))) u.proc else others (writers_in (get same_location_key table (access_key u))) u.proc) ≡ list_any (clash u) us
    by true k = (t (access_key u) u.proc).0 ∙ sym (clash_writing u k us)
    by false k = (t (access_key u) u.proc).1 ∙ sym (clash_reading u k us)

pub racing_all : {S : Type 0} (table : HashMap LocationKey Accessors S) (us xs : List Use) → IsTableOf table us → filter (racing_by table) xs ≡ filter (λ u. list_any (clash u) us) xs
racing_all table us xs t = ap (λ (test : Use → Bool). filter test xs) (λ i u. racing_is table us t u i)
