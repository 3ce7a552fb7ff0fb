-- One more entry updates the tables of grids and phases correctly.
use Rattle.std.proofs.Common.{◌≡◌, ◌↔◌, ◌∙◌, refl, ap, ap₂, sym, subst, ℕ, suc, ◌+◌, ◌<◌, ◌==◌, Bool, true, false, ◌&&◌, if◌then◌else◌, IsTrue, [], ◌∷◌, length, Option, Some, None, arith, add-one, eq-eqb, eqb-true}
use Rattle.std.specs.HashMap.{HashMap, get, Updates}
use Rattle.std.specs.Map.{lookup}
use Rattle.std.specs.Prelude.{Result, Ok, Err, OnErr}
use Rattle.ti_base.specs.declared.action.Action.{Action}
use Rattle.ti_base.specs.declared.action.Action.TheVariants as act
use Rattle.ti_base.specs.declared.action.ViewHow.{ViewHow}
use Rattle.ti_base.specs.declared.action.ViewHow.TheVariants.{Restrict, Translate, Slice}
use Rattle.ti_base.specs.declared.entry.Answer.{Answer}
use Rattle.ti_base.specs.declared.entry.Answer.TheVariants.{Val}
use Rattle.ti_base.specs.declared.entry.Entry.{Entry}
use Rattle.ti_base.specs.declared.point.Point.{Point}
use Rattle.ti_base.specs.declared.point.Rect.{Rect}
use Rattle.ti_base.specs.declared.value.Id.{Id}
use Rattle.ti_base.specs.declared.value.Value.TheVariants as v
use Rattle.ti_base.specs.declared.value.Zero.{Zero}
use Rattle.ti_base.specs.Points.{IsPoint}
use Rattle.ti_base.specs.Rects.{IsRect}
use Rattle.ti_base.specs.Forms.{is_point, is_rect, is_view}
use Rattle.ti_base.specs.Cells.{same_id, suits, view, view_fault, whole_grid}
use Rattle.ti_lang.specs.Meaning.Histories.{History, is_departure, departures}
use Rattle.ti_lang.specs.Meaning.HeapOf.{is_grid}
use Rattle.ti_lang.specs.Meaning.Spots.{Block, no_fault, viewed_told, is_block, makes_grid, grid_from, grid_told}
use Rattle.ti_lang.proofs.Lemmas.{same_name}
use Rattle.ti_rect.specs.Views.{IsView}
use Rattle.ti_grid.specs.declared.layout.Layout.{Layout}
use Rattle.ti_grid.specs.Views.{IsWhole}
use Rattle.ti_race.specs.declared.grid_layout.GridLayout.{GridLayout}
use Rattle.ti_race.specs.declared.spots.IdKey.{IdKey}
use Rattle.ti_race.specs.contracts.spots.IdKeyPartialEq.TheImpl as name_eq
use Rattle.ti_race.specs.Mirrors.GridLayout.{LaysOut, LaysOutIf}
use Rattle.ti_race.specs.Mirrors.HistoryIndex.{id_key, block_made, whole_at, IsLayoutIn, lying_in, phase_in, block_told, view_told, grid_result}
use Rattle.ti_race.proofs.Seen.{true_false, not_true, if_true, if_false}
use Rattle.ti_race.proofs.Courses.{left_own, left_other}
use Rattle.ti_race.proofs.Noting as keys

-- ---- blocks stay

below : (n : ℕ) (h : History) (w : Rect) → whole_at n h ≡ Some w → n < length h
below n [] w there = absurd (let x = there in cc)
below n (e ∷ h) w there = by (n == length h) refl there (λ x. below n h w x)
  where
    by : (b : Bool) → (n == length h) ≡ b → (if b then block_made e.act else whole_at n h) ≡ Some w → (whole_at n h ≡ Some w → n < length h) → n < suc (length h)
    by true same x earlier = let k = eqb-true n (length h) same in omega (arith, k)
    by false other x earlier = let k = earlier x in omega (arith, k)

pub whole_on : (e : Entry) (n : ℕ) (h : History) (w : Rect) → whole_at n h ≡ Some w → whole_at n (e ∷ h) ≡ Some w
whole_on e n h w there =
    let k = below n h w there in
    if_false (n == length h) (block_made e.act) (whole_at n h) (not_true (n == length h) (λ same. let z = eqb-true n (length h) same in absurd (omega arith))) ∙ there

pub lies_on : (e : Entry) (h : History) (l : Option GridLayout) (b : Option Block) → IsLayoutIn h l b → IsLayoutIn (e ∷ h) l b
lies_on e h None None lies = lies
lies_on e h (Some l) (Some b) lies = (lies.0, whole_on e b.number h lies.0 lies.1, lies.2)
lies_on e h None (Some b) lies = absurd lies
lies_on e h (Some l) None lies = absurd lies

-- ---- views

pub view_tested : (how : ViewHow) → ((p : Point) → IsTrue (is_point p) ↔ IsPoint p) → ((r : Rect) → IsTrue (is_rect r) ↔ IsRect r) → IsTrue (is_view how) ↔ IsView how
view_tested (Restrict r) points rects = rects r
view_tested (Translate p) points rects = points p
view_tested (Slice k j) points rects = (λ x. tt, λ x. refl)

pub formless_view : (h : History) (how : ViewHow) (b : Option Block) → (IsTrue (is_view how) ↔ IsView how) → (IsView how → ⊥) → IsLayoutIn h None (view_told how b)
formless_view h how b told formless = subst (IsLayoutIn h None) (sym (if_false (is_view how) (viewed_told how b) None (not_true (is_view how) (λ e. formless (told.0 e))))) tt

pub untold_view : (h : History) (how : ViewHow) (b : Option Block) → IsLayoutIn h None b → IsLayoutIn h None (view_told how b)
untold_view h how None lies = subst (IsLayoutIn h None) (sym (none (is_view how))) tt
  where
    none : (x : Bool) → (if x then viewed_told how None else None) ≡ None
    none true = refl
    none false = refl
untold_view h how (Some b) lies = absurd lies

-- of a view of a grid that was told
pub told_view : (h : History) (how : ViewHow) (l : GridLayout) (b : Option Block) (made : Option GridLayout) → (IsTrue (is_view how) ↔ IsView how) → IsView how → IsLayoutIn h (Some l) b
    → ((whole : Rect) (b : Block) → LaysOut whole l b → LaysOutIf whole made (viewed_told how (Some b))) → IsLayoutIn h made (view_told how b)
told_view h how l None made told form lies f = absurd lies
told_view h how l (Some b) made told form lies f =
    subst (IsLayoutIn h made) (sym (if_true (is_view how) (viewed_told how (Some b)) None (told.1 form)))
    (by (suits how b.grid.domain && no_fault (view_fault how b.grid.domain)) made (f lies.0 b lies.2))
  where
    by : (x : Bool) (made : Option GridLayout) → LaysOutIf lies.0 made (if x then Some (record { number = b.number; grid = view how b.grid }) else None)
        → IsLayoutIn h made (if x then Some (record { number = b.number; grid = view how b.grid }) else None)
    by true (Some n) k = (lies.0, lies.1, k)
    by true None k = absurd k
    by false None k = tt
    by false (Some n) k = absurd k

-- a view that is made under any name
pub view_from : (h : History) (e : Entry) (l : Option GridLayout) (id grid : Id) (how : ViewHow) (a : Action) → a ≡ act.MakeView grid how → IsLayoutIn h l (view_told how (grid_told grid h))
    → IsLayoutIn (e ∷ h) l (grid_from id (length h) a (λ w. grid_told w h))
view_from h e l id grid how a is lies = subst (λ (x : Action). IsLayoutIn (e ∷ h) l (grid_from id (length h) x (λ w. grid_told w h))) (sym is) (lies_on e h l (view_told how (grid_told grid h)) lies)

-- ---- new blocks

pub block_lies : (e : Entry) (h : History) (number : ℕ) (id : Id) (zero : Zero) (domain : Rect) (view : Layout) → number ≡ length h → block_made e.act ≡ Some domain → is_block domain ≡ true
    → view.dom ≡ domain → IsWhole view → IsLayoutIn (e ∷ h) (Some (record { number = number; view = view })) (block_told id number zero domain)
block_lies e h number id zero domain view counted made small same whole =
    subst (IsLayoutIn (e ∷ h) (Some (record { number = number; view = view })))
    (sym (if_true (is_block domain) (Some (record { number = number; grid = whole_grid id zero domain })) None small)) (
      domain,
      if_true (number == length h) (block_made e.act) (whole_at number h) (eq-eqb number (length h) counted) ∙ made,
      record {
        number = refl;
        domain = same;
        cells = λ p inside. subst (λ (r : Rect). Rattle.ti_grid.specs.Views.cell_number view p
            ≡ Rattle.ti_grid.specs.Views.place_in (Rattle.ti_base.specs.Rects.points_of r) p) same (whole p);
      },
    )

pub no_block_lies : (h : History) (id : Id) (number : ℕ) (zero : Zero) (domain : Rect) → is_block domain ≡ false → IsLayoutIn h None (block_told id number zero domain)
no_block_lies h id number zero domain large = subst (IsLayoutIn h None) (sym (if_false (is_block domain) (Some (record { number = number; grid = whole_grid id zero domain })) None large)) tt

-- ---- tables

-- a table with the entries of another has the same at each key
pub same_at : {K X S : Type 0} (eq : K → K → Bool) (m n : HashMap K X S) (k : K) → n.entries ≡ m.entries → get eq n k ≡ get eq m k
same_at eq m n k same = ap (lookup (eq k)) same

-- what holds anyhow holds where there is an error
pub on_err : {T E P : Type 0} (r : Result T E) → P → OnErr r P
on_err (Ok x) p = tt
on_err (Err e) p = p

-- ---- the table of grids

same_self : (a : Id) → same_id a a ≡ true
same_self a = ap₂ (λ x y. x && y) (ap₂ (λ x y. x && y) (ap₂ (λ x y. x && y) (eq-eqb a.maker a.maker refl) (eq-eqb a.serial a.serial refl))
    (eq-eqb a.owner a.owner refl)) (eq-eqb a.region a.region refl)

key_back : (a b : Id) → id_key a ≡ id_key b → a ≡ b
key_back a b e = λ i. record { maker = (e i).maker; serial = (e i).serial; owner = (e i).owner; region = (e i).region }

named : (id made : Id) (r : Answer) → grid_result r ≡ Some made → is_grid id r ≡ same_id id made
named id made (Val (v.Grid (Some m))) e = ap (same_id id) (some_same m made e)
  where
    some_same : (a b : Id) → Some a ≡ Some b → a ≡ b
    some_same a b e = cc
named id made _ e = cc

unnamed : (id : Id) (r : Answer) → grid_result r ≡ None → is_grid id r ≡ false
unnamed id (Val (v.Grid (Some m))) e = cc
unnamed id _ e = refl

pub no_some : (o : Option Id) → ((made : Id) → o ≡ Some made → ⊥) → o ≡ None
no_some None f = refl
no_some (Some made) f = absurd (f made refl)

-- an entry that makes no grid
pub grids_stay : (e : Entry) (h : History) (id : Id) (l : Option GridLayout) → (makes_grid e.act && is_grid id e.answer) ≡ false → IsLayoutIn h l (grid_told id h) → IsLayoutIn (e ∷ h) l (grid_told id (e ∷ h))
grids_stay e h id l none lies =
    subst (IsLayoutIn (e ∷ h) l) (sym (if_false (makes_grid e.act && is_grid id e.answer) (grid_from id (length h) e.act (λ w. grid_told w h)) (grid_told id h) none)) (lies_on e h l (grid_told id h) lies)

pub no_making : (e : Entry) (id : Id) → makes_grid e.act ≡ false → (makes_grid e.act && is_grid id e.answer) ≡ false
no_making e id z = ap (λ b. b && is_grid id e.answer) z

pub no_name : (e : Entry) (id : Id) → grid_result e.answer ≡ None → (makes_grid e.act && is_grid id e.answer) ≡ false
no_name e id z = ap (λ b. makes_grid e.act && b) (unnamed id e.answer z) ∙ short (makes_grid e.act)
  where
    short : (b : Bool) → (b && false) ≡ false
    short true = refl
    short false = refl

-- an entry that makes one under this name
pub grids_more : {S : Type 0} (m n : HashMap IdKey (Option GridLayout) S) (e : Entry) (h : History) (made : Id) (lying : Option GridLayout)
    → makes_grid e.act ≡ true → grid_result e.answer ≡ Some made → Updates (name_eq.ghosts).eq m n (id_key made) (Some lying)
    → IsLayoutIn (e ∷ h) lying (grid_from made (length h) e.act (λ w. grid_told w h))
    → ((id : Id) → IsLayoutIn h (lying_in (get (name_eq.ghosts).eq m (id_key id))) (grid_told id h))
    → (id : Id) → IsLayoutIn (e ∷ h) (lying_in (get (name_eq.ghosts).eq n (id_key id))) (grid_told id (e ∷ h))
grids_more m n e h made lying makes names u lies told id = by ((name_eq.ghosts).eq (id_key made) (id_key id)) refl
  where
    by : (b : Bool) → (name_eq.ghosts).eq (id_key made) (id_key id) ≡ b → IsLayoutIn (e ∷ h) (lying_in (get (name_eq.ghosts).eq n (id_key id))) (grid_told id (e ∷ h))
    by true z =
        let key : id_key made ≡ id_key id = keys.name_same (id_key made) (id_key id) z in
        let same : made ≡ id = key_back made id key in
        let test : (makes_grid e.act && is_grid id e.answer) ≡ true = ap₂ (λ a b. a && b) makes (named id made e.answer names ∙ ap (same_id id) same ∙ same_self id) in
        subst (λ (l : Option (Option GridLayout)). IsLayoutIn (e ∷ h) (lying_in l) (grid_told id (e ∷ h))) (sym (ap (get (name_eq.ghosts).eq n) (sym key) ∙ u.1))
        (subst (IsLayoutIn (e ∷ h) lying) (sym (if_true (makes_grid e.act && is_grid id e.answer) (grid_from id (length h) e.act (λ w. grid_told w h)) (grid_told id h) test))
        (subst (λ (k : Id). IsLayoutIn (e ∷ h) lying (grid_from k (length h) e.act (λ w. grid_told w h))) same lies))
    by false z =
        let other : (makes_grid e.act && is_grid id e.answer) ≡ false =
        ap₂ (λ a b. a && b) makes (named id made e.answer names ∙ not_true (same_id id made)
        (λ k. true_false (sym (ap (λ (x : Id). (name_eq.ghosts).eq (id_key made) (id_key x)) (same_name id made k)
        ∙ keys.name_self (id_key made)) ∙ z))) in
        subst (λ (l : Option (Option GridLayout)). IsLayoutIn (e ∷ h) (lying_in l) (grid_told id (e ∷ h))) (sym (u.2 (id_key id) z)) (grids_stay e h id _ other (told id))

-- ---- phases

pub phases_more : {S : Type 0} (m n : HashMap ℕ ℕ S) (e : Entry) (h : History) (phase : ℕ) → is_departure e.act ≡ true → phase ≡ departures e.proc h + 1 → Updates ◌==◌ m n e.proc (Some phase)
    → ((i : ℕ) → phase_in (get ◌==◌ m i) ≡ departures i h) → (i : ℕ) → phase_in (get ◌==◌ n i) ≡ departures i (e ∷ h)
phases_more m n e h phase departs counted u told i = by (e.proc == i) refl
  where
    by : (b : Bool) → (e.proc == i) ≡ b → phase_in (get ◌==◌ n i) ≡ departures i (e ∷ h)
    by true z =
        let same = eqb-true e.proc i z in
        ap phase_in (ap (get ◌==◌ n) (sym same) ∙ u.1) ∙ counted ∙ ap (λ k. departures k h + 1) same ∙ add-one (departures i h)
        ∙ sym (left_own i e h (ap₂ (λ (a b : Bool). a && b) z departs))
    by false z =
        ap phase_in (u.2 i z) ∙ told i ∙ sym (left_other i e h (ap (λ (a : Bool). a && is_departure e.act) z))

-- an entry that leaves no collective
pub phases_stay : (e : Entry) (h : History) (i : ℕ) → is_departure e.act ≡ false → departures i (e ∷ h) ≡ departures i h
phases_stay e h i stays = left_other i e h (ap (λ (b : Bool). (e.proc == i) && b) stays ∙ short (e.proc == i))
  where
    short : (b : Bool) → (b && false) ≡ false
    short true = refl
    short false = refl
