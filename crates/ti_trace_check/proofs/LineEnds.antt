-- The text of an entry is a line: its last byte is its one line end.
use Rattle.std.proofs.Common.{◌≡◌, ◌∙◌, ℕ, zero, suc, ◌+◌, ◌/◌, ◌%◌, ◌<◌, ◌==◌, Bool, true, false, not, ◌&&◌, cond, List, [], ◌∷◌, ◌++◌, take, refl, arith, Some, None, append_assoc}
use Rattle.std.specs.Prelude.{Option, codes, decimal, nat_lt}
use Rattle.std.specs.Fmt.{digits, digits_onto, digit_glyph, signed_decimal}
use Rattle.std.proofs.lemmas.Bool.Decides.{nat_tests}
use Rattle.std.proofs.lemmas.List.Folds.{list_all-append}
use lib.IntN.{ℤ, pos, negsuc}
use Rattle.ti_base.specs.declared.action.Action.{Action}
use Rattle.ti_base.specs.declared.action.Action.TheVariants as act
use Rattle.ti_base.specs.declared.action.CollKind.{CollKind}
use Rattle.ti_base.specs.declared.action.CollKind.TheVariants.{Barrier, Broadcast, Exchange, MakeRegion, DeleteRegion}
use Rattle.ti_base.specs.declared.action.Deposit.{Deposit}
use Rattle.ti_base.specs.declared.action.Deposit.TheVariants.{Nothing, One, Count}
use Rattle.ti_base.specs.declared.action.ViewHow.{ViewHow}
use Rattle.ti_base.specs.declared.action.ViewHow.TheVariants.{Restrict, Translate, Slice}
use Rattle.ti_base.specs.declared.entry.Answer.{Answer}
use Rattle.ti_base.specs.declared.entry.Answer.TheVariants.{Done, Val}
use Rattle.ti_base.specs.declared.entry.Entry.{Entry}
use Rattle.ti_base.specs.declared.fault.FaultKind.{FaultKind}
use Rattle.ti_base.specs.declared.fault.FaultKind.TheVariants as fault
use Rattle.ti_base.specs.declared.place.Place.{Place}
use Rattle.ti_base.specs.declared.point.Point.{Point}
use Rattle.ti_base.specs.declared.point.Rect.{Rect}
use Rattle.ti_base.specs.declared.value.Id.{Id}
use Rattle.ti_base.specs.declared.value.Value.{Value}
use Rattle.ti_base.specs.declared.value.Value.TheVariants as v
use Rattle.ti_base.specs.declared.value.Zero.{Zero}
use Rattle.ti_base.specs.declared.value.Zero.TheVariants as z
use Rattle.ti_base.specs.FaultNames.{name_of}
use Rattle.ti_base.specs.Ranges.{Range}
use Rattle.ti_base.specs.Rects.{first_range, second_range, third_range, is_empty}
use Rattle.ti_watch.specs.Texts.{place_text, comma_list, point_text, range_text, range_texts, rect_text, id_text, object_text, grid_text, trace_value_text, zero_text}
use Rattle.ti_watch.specs.Acts.{action_word, optional, literal_number_text, collective_text, deposit_text, view_text, field_text, element_text, action_operands_text, act_text, answer_text}
use Rattle.ti_watch.specs.Reports.{entry_text}
use Rattle.ti_trace_check.specs.Lines.{has_no_end}

-- no byte of a text is a line end
pub record No (text : List ℕ) : Type 0 where
  pub is : has_no_end text ≡ true

both : (a b : Bool) → a ≡ true → b ≡ true → (a && b) ≡ true
both true b x y = y
both false b x y = cc

pub plus : (xs ys : List ℕ) → No xs → No ys → No (xs ++ ys)
plus xs ys h k = record { is = list_all-append (λ (c : ℕ). not (c == 10)) xs ys ∙ both (has_no_end xs) (has_no_end ys) h.is k.is }

-- ---- numbers

glyph : (d : ℕ) → d < 10 → not (digit_glyph false d == 10) ≡ true
glyph d small = by (nat_lt d 10) (grind (arith, nat_tests))
  where
    apart : (d : ℕ) → not (48 + d == 10) ≡ true
    apart d = grind (arith, nat_tests)

    by : (b : Bool) → b ≡ true → not (cond b (48 + d) (cond false (55 + d) (87 + d)) == 10) ≡ true
    by true e = apart d
    by false e = cc

below_ten : (n : ℕ) → n % 10 < 10
below_ten n = omega arith

abbrev None_in : List ℕ → Type 0
None_in text = has_no_end text ≡ true

onto : (k n : ℕ) (acc : List ℕ) → None_in acc → None_in (digits_onto k 10 false n acc)
onto zero n acc h = h
onto (suc k) n acc h =
    let more : None_in (digit_glyph false (n % 10) ∷ acc) = both _ _ (glyph (n % 10) (below_ten n)) h in
    by (n / 10 == 0) more (onto k (n / 10) (digit_glyph false (n % 10) ∷ acc) more)
  where
    by : (b : Bool) → None_in (digit_glyph false (n % 10) ∷ acc) → None_in
        (digits_onto k 10 false (n / 10) (digit_glyph false (n % 10) ∷ acc))
        → None_in (cond b (digit_glyph false (n % 10) ∷ acc) (digits_onto k 10 false (n / 10) (digit_glyph false (n % 10) ∷ acc)))
    by true x y = x
    by false x y = y

pub number : (n : ℕ) → No (decimal n)
unfolding digits
number n = record { is = onto 64 n [] refl }

pub signed : (z : ℤ) → No (signed_decimal z)
signed (pos n) = number n
signed (negsuc n) = record { is = (number (suc n)).is }

-- ---- places, points and domains

place : (p : Place) → No (place_text p)
place p = plus _ _ (plus _ _ (number p.line) (record { is = refl })) (number p.col)

-- none has one
abbrev All : List (List ℕ) → Type 0
All [] = Unit {0}
All (t ∷ ts) = No t × All ts

all_taken : (k : ℕ) (ts : List (List ℕ)) → All ts → All (take k ts)
all_taken zero ts h = tt
all_taken (suc k) [] h = tt
all_taken (suc k) (t ∷ ts) h = (h.0, all_taken k ts h.1)

all_listed : (ts : List (List ℕ)) → All ts → No (comma_list ts)
all_listed [] h = record { is = refl }
all_listed (t ∷ []) h = h.0
all_listed (t ∷ next ∷ rest) h = plus _ _ (plus _ _ h.0 (record { is = refl })) (all_listed (next ∷ rest) h.1)

in_brackets : (ts : List (List ℕ)) → All ts → No (codes "[" ++ comma_list ts ++ codes "]")
in_brackets ts h = plus (codes "[" ++ comma_list ts) (codes "]") (plus (codes "[") (comma_list ts) (record { is = refl }) (all_listed ts h)) (record { is = refl })

point : (p : Point) → No (point_text p)
point p = in_brackets _ (all_taken p.dim _ (signed p.x1, (signed p.x2, (signed p.x3, tt))))

range : (r : Range) → No (range_text r)
range r = plus _ _ (plus _ _ (plus _ _ (plus _ _ (signed r.low) (record { is = refl })) (signed r.high)) (record { is = refl })) (number r.step)

rect : (r : Rect) → No (rect_text r)
rect r = by (is_empty r)
  where
    by : (b : Bool) → No (cond b (codes "empty" ++ decimal r.dim) (codes "[" ++ comma_list (range_texts r) ++ codes "]"))
    by true = plus (codes "empty") (decimal r.dim) (record { is = refl }) (number r.dim)
    by false = in_brackets _ (all_taken r.dim _ (range (first_range r), (range (second_range r), (range (third_range r), tt))))

-- ---- values

id : (i : Id) → No (id_text i)
id i = plus _ _ (plus _ _ (number i.maker) (record { is = refl })) (number i.serial)

object : (i : Id) → No (object_text i)
object i = plus (codes "obj") (id_text i) (record { is = refl }) (id i)

grid : (i : Id) → No (grid_text i)
grid i = plus (codes "grid") (id_text i) (record { is = refl }) (id i)

value : (x : Value) → No (trace_value_text x)
value (v.Int n) = signed n
value (v.Long n) = plus _ _ (signed n) (record { is = refl })
value (v.Bool true) = record { is = refl }
value (v.Bool false) = record { is = refl }
value (v.Pt p) = point p
value (v.Rc r) = rect r
value (v.Obj None) = record { is = refl }
value (v.Obj (Some i)) = object i
value (v.Grid None) = record { is = refl }
value (v.Grid (Some i)) = grid i
value (v.Region n) = plus (codes "region") (decimal n) (record { is = refl }) (number n)

zero_of : (x : Zero) → No (zero_text x)
zero_of (z.Pt dim) = plus (codes "point") (decimal dim) (record { is = refl }) (number dim)
zero_of (z.Rc dim) = plus (codes "rect") (decimal dim) (record { is = refl }) (number dim)
zero_of _ = record { is = refl }

-- ---- acts and answers

fault_name : (k : FaultKind) → No (name_of k)
fault_name fault.DivZero = record { is = refl }
fault_name fault.NullRef = record { is = refl }
fault_name fault.Bounds = record { is = refl }
fault_name fault.NotLocal = record { is = refl }
fault_name fault.BadRoot = record { is = refl }
fault_name fault.ExchangeDomain = record { is = refl }
fault_name fault.BadStride = record { is = refl }
fault_name fault.EmptyDomain = record { is = refl }
fault_name fault.DomainSize = record { is = refl }
fault_name fault.Range = record { is = refl }
fault_name fault.HeapFull = record { is = refl }
fault_name fault.RegionInUse = record { is = refl }
fault_name fault.RegionGone = record { is = refl }
fault_name fault.Depth = record { is = refl }
fault_name fault.Fuel = record { is = refl }

collective : (k : CollKind) → No (collective_text k)
collective Barrier = record { is = refl }
collective Broadcast = record { is = refl }
collective Exchange = record { is = refl }
collective MakeRegion = record { is = refl }
collective DeleteRegion = record { is = refl }

option : {A : Type 0} (text : A → List ℕ) → ((x : A) → No (text x)) → (o : Option A) → No (optional text o)
option text h None = record { is = refl }
option text h (Some x) = h x

deposit : (d : Deposit) → No (deposit_text d)
deposit Nothing = record { is = refl }
deposit (One x) = value x
deposit (Count n) = plus (codes "count:") (decimal n) (record { is = refl }) (number n)

view : (how : ViewHow) → No (view_text how)
view (Restrict r) = plus (codes "restrict ") (rect_text r) (record { is = refl }) (rect r)
view (Translate by) = plus (codes "translate ") (point_text by) (record { is = refl }) (point by)
view (Slice k j) = plus (codes "slice " ++ signed_decimal k ++ codes " ") (signed_decimal j)
    (plus (codes "slice " ++ signed_decimal k) (codes " ") (plus (codes "slice ") (signed_decimal k) (record { is = refl }) (signed k))
    (record { is = refl })) (signed j)

-- behind a blank
blank : (text : List ℕ) → No text → No (codes " " ++ text)
blank text h = plus (codes " ") text (record { is = refl }) h

two : (a b : List ℕ) → No a → No b → No (codes " " ++ a ++ codes " " ++ b)
two a b h k = plus (codes " " ++ a ++ codes " ") b (plus (codes " " ++ a) (codes " ") (blank a h) (record { is = refl })) k

three : (a b c : List ℕ) → No a → No b → No c → No (codes " " ++ a ++ codes " " ++ b ++ codes " " ++ c)
three a b c h k l = plus (codes " " ++ a ++ codes " " ++ b ++ codes " ") c (plus (codes " " ++ a ++ codes " " ++ b) (codes " ") (two a b h k) (record { is = refl })) l

field : (obj : Id) (n : ℕ) → No (field_text obj n)
field obj n = two _ _ (object obj) (number n)

element : (g : Id) (at : Point) → No (element_text g at)
element g at = two _ _ (grid g) (point at)

operands : (a : Action) → No (action_operands_text a)
operands (act.GetField obj n) = field obj n
operands (act.PutField obj n x) = plus (field_text obj n ++ codes " ") (trace_value_text x) (plus (field_text obj n) (codes " ") (field obj n) (record { is = refl })) (value x)
operands (act.NewObj class region) = two _ _ (number class) (number region)
operands (act.NewGrid initial domain region) = three _ _ _ (zero_of initial) (rect domain) (number region)
operands (act.GetElem g at) = element g at
operands (act.PutElem g at x) = plus (element_text g at ++ codes " ") (trace_value_text x) (plus (element_text g at) (codes " ") (element g at) (record { is = refl })) (value x)
operands (act.MakeView g how) = two _ _ (grid g) (view how)
operands (act.DomainOf g) = blank _ (grid g)
operands (act.Print literal x) = two _ _ (option literal_number_text (λ n. plus (codes "s") (decimal n) (record { is = refl }) (number n)) literal) (option trace_value_text value x)
operands (act.Arrive kind arg d) = three _ _ _ (collective kind) (option decimal number arg) (deposit d)
operands act.Depart = record { is = refl }
operands (act.Take who) = blank _ (number who)
operands act.End = record { is = refl }
operands (act.Fault kind) = blank _ (fault_name kind)

word : (a : Action) → No (action_word a)
word (act.GetField obj n) = record { is = refl }
word (act.PutField obj n x) = record { is = refl }
word (act.NewObj class region) = record { is = refl }
word (act.NewGrid initial domain region) = record { is = refl }
word (act.GetElem g at) = record { is = refl }
word (act.PutElem g at x) = record { is = refl }
word (act.MakeView g how) = record { is = refl }
word (act.DomainOf g) = record { is = refl }
word (act.Print literal x) = record { is = refl }
word (act.Arrive kind arg d) = record { is = refl }
word act.Depart = record { is = refl }
word (act.Take who) = record { is = refl }
word act.End = record { is = refl }
word (act.Fault kind) = record { is = refl }

answer : (r : Answer) → No (answer_text r)
answer Done = record { is = refl }
answer (Val x) = value x

-- ---- entries

-- the text of an entry without its line end
abbrev pub body : ℕ → Entry → List ℕ
body k e = decimal k ++ codes " p" ++ decimal e.proc ++ codes " " ++ place_text e.place ++ codes " " ++ act_text e.act ++ codes " -> " ++ answer_text e.answer

pub none_inside : (k : ℕ) (e : Entry) → No (body k e)
none_inside k e =
    plus _ _ (plus _ _ (plus _ _
    (plus _ _ (plus _ _ (plus _ _ (plus _ _ (plus _ _ (number k) (record { is = refl })) (number e.proc)) (record { is = refl }))
    (place e.place)) (record { is = refl })) (plus _ _ (word e.act) (operands e.act))) (record { is = refl })) (answer e.answer)

-- with a text behind it
pub ended : (k : ℕ) (e : Entry) (x : List ℕ) → entry_text k e ++ x ≡ body k e ++ 10 ∷ x
unfolding entry_text
ended k e x = append_assoc (body k e) (10 ∷ []) x
