-- Computations that ask for one action at most: each access to a cell, each member of the language, each view.
use Rattle.std.proofs.Common.{◌≡◌, ◌⊎◌, inl, inr, ◌≤◌, Bool, true, false, length, List, [], ◌∷◌, Option, Some, refl, ap, sym, ◌∙◌, arith}
use Rattle.std.specs.Prelude.{ℤ, pos, slice_index_or}
use Rattle.ti_base.specs.declared.place.Place.{Place}
use Rattle.ti_base.specs.declared.point.Point.{Point}
use Rattle.ti_base.specs.declared.value.Value.TheVariants as v
use Rattle.ti_base.specs.declared.fault.FaultKind.TheVariants.{Bounds}
use Rattle.ti_base.specs.declared.action.ViewHow.{ViewHow}
use Rattle.ti_base.specs.declared.entry.Answer.{Answer}
use Rattle.ti_lang.specs.Program.Types.{ValueType}
use Rattle.ti_lang.specs.Typing.BuiltIn as b
use Rattle.ti_lang.specs.Typing.BuiltIn.{BuiltIn}
use Rattle.ti_lang.specs.Meaning.Held.{Held, Plain, Dm, point_of}
use Rattle.ti_lang.specs.Meaning.Comp.{Request, Reference, Gives, Asks, Comp, ◌>>=◌, bind_result, gives, found_or, asked, needed, told}
use Rattle.ti_lang.specs.Meaning.Literals.{point_of_numbers}
use Rattle.ti_lang.specs.Meaning.CellRefs.{Part, Field, Element, fetched, domain_of, viewed, coordinate, indexed}
use Rattle.ti_lang.specs.Meaning.MemberForms.{domain_size, member_value}
use Rattle.ti_lang.proofs.MeaningLaws.Silent.{Silent, silent_value, silent_guarded, silent_found, silent_needed, silent_then, silent_leaves, rest_same, asks_gives}

-- it asks for one action, whose answer it uses
abbrev pub AsksOnce : {A : Type 0} → Comp A → Type 0
AsksOnce {A} m = (q : Request) × (f : Answer → A) × (m [] ≡ Asks q) × ((r : Answer) (rs : List Answer) → m (r ∷ rs) ≡ Gives (f r) rs)

-- it asks for one action or for none
abbrev pub Short : {A : Type 0} → Comp A → Type 0
Short m = Silent m ⊎ AsksOnce m

pub asked_once : (q : Request) → Short (asked q)
asked_once q = inr (q, (λ r. told r), refl, (λ r rs. refl))

-- ---- how they are put together

-- behind one that asks for nothing
pub short_after : {A B : Type 0} (m : Comp A) (k : A → Comp B) → Silent m → ((a : A) → Short (k a)) → Short (m >>= k)
short_after {A} {B} m k (inl x) f = by (f x.0)
  where
    by : Short (k x.0) → Short (m >>= k)
    by (inl (inl y)) = inl (inl (y.0, λ rs. ap (λ g. bind_result g k) (x.1 rs) ∙ y.1 rs))
    by (inl (inr y)) = inl (inr (y.0, y.1, λ rs. ap (λ g. bind_result g k) (x.1 rs) ∙ y.2 rs))
    by (inr y) = inr (y.0, y.1, ap (λ g. bind_result g k) (x.1 []) ∙ y.2, λ r rs. ap (λ g. bind_result g k) (x.1 (r ∷ rs)) ∙ y.3 r rs)
short_after m k (inr x) f = inl (inr (x.0, x.1, λ rs. ap (λ g. bind_result g k) (x.2 rs)))

-- with its result made into another
pub short_then : {A B : Type 0} (m : Comp A) (f : A → B) → Short m → Short (m >>= λ a. gives (f a))
short_then m f (inl x) = inl (silent_then m (λ a. gives (f a)) x (λ a. silent_value (f a)))
short_then m f (inr x) = inr (x.0, (λ r. f (x.1 r)), ap (λ g. bind_result g (λ a. gives (f a))) x.2, λ r rs. ap (λ g. bind_result g (λ a. gives (f a))) (x.3 r rs))

-- behind a reference that is needed
pub needed_then : {B : Type 0} (at : Place) (type : ValueType) (h : Held) (k : Reference → Comp B) → ((r : Reference) → Short (k r)) → Short (needed at type h >>= k)
needed_then at type h k f = short_after (needed at type h) k (silent_needed at type h) f

-- ---- cells, domains, views, members

pub fetched_short : (at : Place) (type : ValueType) (p : Part) → Short (fetched at type p)
fetched_short at type (Field object through field) = needed_then at through object _ (λ r. asked_once _)
fetched_short at type (Element grid through index) = needed_then at through grid _ (λ r. asked_once _)

pub domain_short : (at : Place) (through : ValueType) (h : Held) → Short (domain_of at through h)
domain_short at through h = needed_then at through h _ (λ r. asked_once _)

pub viewed_short : (at : Place) (type : ValueType) (how : ViewHow) (through : ValueType) (h : Held) → Short (viewed at type how through h)
viewed_short at type how through h = needed_then at through h _ (λ r. asked_once _)

pub silent_coordinate : (at : Place) (p : Point) (k : ℤ) → Silent (coordinate at p k)
silent_coordinate at p k = silent_then (found_or Bounds at _) (λ x. gives (Plain (v.Int x))) (silent_found Bounds at _) (λ x. silent_value _)

pub indexed_short : (is_point : Bool) (at : Place) (type through : ValueType) (h : Held) (indices : List ℤ) → Short (indexed is_point at type through h indices)
indexed_short true at type through h indices = inl (silent_coordinate at (point_of h) (slice_index_or indices 0 (pos 0)))
indexed_short false at type through h indices = fetched_short at type (Element h through (point_of_numbers indices))

sized_silent : (at : Place) (h : Held) → Silent (domain_size at h)
sized_silent at (Plain (v.Rc r)) = silent_guarded _ _ at _
sized_silent at (Dm dim points) = silent_value _
sized_silent at h = silent_value _

pub member_short : (at : Place) (type : ValueType) (o : Option BuiltIn) (through : ValueType) (h : Held) (hs : List Held) → Short (member_value at type o through h hs)
member_short at type (Some b.Size) through h hs = inl (sized_silent at h)
member_short at type (Some b.Min) through h hs = inl (silent_guarded _ _ at _)
member_short at type (Some b.Max) through h hs = inl (silent_guarded _ _ at _)
member_short at type (Some b.Contains) through h hs = inl (silent_value _)
member_short at type (Some b.Domain) through h hs = domain_short at through h
member_short at type (Some b.Restrict) through h hs = viewed_short at type _ through h
member_short at type (Some b.Translate) through h hs = viewed_short at type _ through h
member_short at type (Some b.Slice) through h hs = viewed_short at type _ through h
member_short at type o through h hs = inl (silent_value _)

-- ---- what is left of the answers

-- no more than there was
pub short_less : {A : Type 0} (m : Comp A) (rs : List Answer) (a : A) (rest : List Answer) → Short m → m rs ≡ Gives a rest → length rest ≤ length rs
short_less m rs a rest (inl x) e =
    let same = silent_leaves m rs a rest x e in
    omega (arith, ap (λ (l : List Answer). length l) same)
short_less m [] a rest (inr x) e = absurd (asks_gives a rest x.0 (sym x.2 ∙ e))
short_less m (r ∷ rs) a rest (inr x) e =
    let same : rs ≡ rest = rest_same (x.1 r) a rs rest (sym (x.3 r rs) ∙ e) in
    omega (arith, ap (λ (l : List Answer). length l) same)
