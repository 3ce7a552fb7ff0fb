-- One more entry updates the index and the list of accesses correctly.
use Rattle.std.proofs.Common.{◌≡◌, ◌∙◌, refl, ap, sym, subst, ℕ, zero, suc, List, [], ◌∷◌, ◌++◌, All, reverse, length, slice_get, slice_index_or, Option, Some, None, IfSome}
use Rattle.std.proofs.lemmas.List.{reverse-append, length-reverse, append-nil}
use Rattle.std.proofs.lemmas.List.Elements.{All-append, All-nil, All-cons}
use Rattle.ti_base.specs.declared.entry.Entry.{Entry}
use Rattle.ti_lang.specs.Meaning.Histories.{History, history_of}
use Rattle.ti_lang.specs.Meaning.Races.{prepend_option}
use Rattle.ti_lang.specs.Meaning.Spots as told
use Rattle.ti_lang.specs.Meaning.Spots.{uses, use_of}
use Rattle.ti_race.specs.declared.spots.Spot.{Spot}
use Rattle.ti_race.specs.declared.spots.Spot.TheVariants.{FieldOf, CellOf, PointOf}
use Rattle.ti_race.specs.declared.spots.Use.{Use}
use Rattle.ti_race.specs.declared.uses.Uses.{Uses}
use Rattle.ti_race.specs.Mirrors.HistoryIndex.{IndexesHistory, IsSpot, IsUse, IsUseIf, AreUses, HasUses, one_or_none, IsListed, Gathers}
use Rattle.ti_race.proofs.IndexedObjects.{whole_on}

spot_on : (e : Entry) (h : History) (s : Spot) (t : told.Spot) → IsSpot h s t → IsSpot (e ∷ h) s t
spot_on e h (FieldOf t f) (told.FieldOf u g) is = is
spot_on e h (FieldOf t f) (told.ElementOf u p) is = absurd is
spot_on e h (CellOf n i) (told.FieldOf u g) is = absurd is
spot_on e h (CellOf n i) (told.ElementOf (told.Made m) p) is = (is.0, (is.1.0, whole_on e m h is.1.0 is.1.1, is.1.2))
spot_on e h (CellOf n i) (told.ElementOf (told.Untold id) p) is = absurd is
spot_on e h (PointOf name at) (told.FieldOf u g) is = absurd is
spot_on e h (PointOf name at) (told.ElementOf (told.Made m) p) is = absurd is
spot_on e h (PointOf name at) (told.ElementOf (told.Untold id) p) is = is

use_on : (e : Entry) (h : History) (u : Use) (a : told.Use) → IsUse h u a → IsUse (e ∷ h) u a
use_on e h u a is = record { number = is.number; proc = is.proc; phase = is.phase; spot = spot_on e h u.spot a.spot is.spot; writes = is.writes }

uses_on : (e : Entry) (h : History) (us : List Use) (all : List told.Use) → AreUses h us all → AreUses (e ∷ h) us all
uses_on e h [] [] are = are
uses_on e h (u ∷ us) (a ∷ all) are = (use_on e h u a are.0, uses_on e h us all are.1)
uses_on e h [] (a ∷ all) are = absurd are
uses_on e h (u ∷ us) [] are = absurd are

-- with the use of the entry, where it is one
pub uses_more : (e : Entry) (h : History) (us : List Use) (all : List told.Use) (u : Option Use) (a : Option told.Use) → AreUses h us all → IsUseIf h u a → AreUses (e ∷ h) (prepend_option u us) (prepend_option a all)
uses_more e h us all None None are is = uses_on e h us all are
uses_more e h us all (Some u) (Some a) are is = (use_on e h u a is, uses_on e h us all are)
uses_more e h us all None (Some a) are is = absurd is
uses_more e h us all (Some u) None are is = absurd is

-- the history of one entry more
one_more : (es : List Entry) (e : Entry) → history_of (es ++ e ∷ []) ≡ e ∷ history_of es
one_more es e = reverse-append es (e ∷ [])

back_more : (us : List Use) (u : Option Use) → reverse (us ++ one_or_none u) ≡ prepend_option u (reverse us)
back_more us None = ap reverse (append-nil us)
back_more us (Some u) = reverse-append us (u ∷ [])

-- the uses with that of one entry more
has_more : (e : Entry) (h : History) (us : List Use) (u : Option Use) → HasUses h us → IsUseIf h u (use_of e h) → HasUses (e ∷ h) (us ++ one_or_none u)
has_more e h us u has one = subst (λ (ws : List Use). AreUses (e ∷ h) ws (uses (e ∷ h))) (sym (back_more us u)) (uses_more e h (reverse us) (uses h) u (use_of e h) has one)

-- ---- entries of a list

there_on : {A : Type 0} (xs ys : List A) (n : ℕ) (x : A) → slice_get xs n ≡ Some x → slice_get (xs ++ ys) n ≡ Some x
there_on [] ys n x there = absurd (let z = there in cc)
there_on (x ∷ xs) ys zero y there = there
there_on (x ∷ xs) ys (suc n) y there = there_on xs ys n y there

last_there : {A : Type 0} (xs : List A) (y : A) → slice_get (xs ++ y ∷ []) (length xs) ≡ Some y
last_there [] y = refl
last_there (x ∷ xs) y = last_there xs y

listed_on : (es : List Entry) (e : Entry) (u : Use) → IsListed es u → IsListed (es ++ e ∷ []) u
listed_on es e u is = (is.0, there_on es (e ∷ []) u.number is.0 is.1, is.2, is.3)

abbrev pub IsOf : ℕ → Entry → Use → Type 0
IsOf n e u = (u.number ≡ n) × (u.proc ≡ e.proc) × (u.place ≡ e.place)

listed_last : (es : List Entry) (e : Entry) (n : ℕ) (u : Use) → n ≡ length es → IsOf n e u → IsListed (es ++ e ∷ []) u
listed_last es e n u counted is = (e, ap (slice_get (es ++ e ∷ [])) (is.0 ∙ counted) ∙ last_there es e, is.1, is.2)

listed_more : (es : List Entry) (e : Entry) (n : ℕ) (us : List Use) (u : Option Use) → n ≡ length es → All (IsListed es) us → IfSome u (IsOf n e) → All (IsListed (es ++ e ∷ [])) (us ++ one_or_none u)
listed_more es e n us u counted all of = All-append (IsListed (es ++ e ∷ [])) us (one_or_none u) (λ k d below. listed_on es e (slice_index_or us k d) (all k d below)) (last u of)
  where
    last : (u : Option Use) → IfSome u (IsOf n e) → All (IsListed (es ++ e ∷ [])) (one_or_none u)
    last None of = All-nil (IsListed (es ++ e ∷ []))
    last (Some u) of = All-cons (IsListed (es ++ e ∷ [])) u [] (listed_last es e n u counted of) (All-nil (IsListed (es ++ e ∷ [])))

-- ---- what is kept

-- of one entry more
pub gathers_more : (was is : Uses) (es : List Entry) (e : Entry) (u : Option Use) → Gathers was es → ((h : History) → IndexesHistory was.told h → IndexesHistory is.told (e ∷ h))
    → ((h : History) → IndexesHistory was.told h → IsUseIf h u (use_of e h)) → IfSome u (IsOf was.told.count e) → is.found.items ≡ was.found.items ++ one_or_none u → Gathers is (es ++ e ∷ [])
gathers_more was is es e u gathers tells one of grew =
    let h = history_of es in
    let counted : was.told.count ≡ length es = gathers.told.count ∙ length-reverse es in record {
      told = subst (IndexesHistory is.told) (sym (one_more es e)) (tells h gathers.told);
      uses = subst (λ (g : History). HasUses g is.found.items) (sym (one_more es e)) (subst (HasUses (e ∷ h)) (sym grew) (has_more e h was.found.items u gathers.uses (one h gathers.told)));
      listed = subst (All (IsListed (es ++ e ∷ []))) (sym grew) (listed_more es e was.told.count was.found.items u counted gathers.listed of);
    }

-- the same as before
pub gathers_still : (was is : Uses) (es : List Entry) → Gathers was es → ((h : History) → IndexesHistory was.told h → IndexesHistory is.told h) → is.found.items ≡ was.found.items → Gathers is es
gathers_still was is es gathers tells same = record {
  told = tells (history_of es) gathers.told;
  uses = subst (HasUses (history_of es)) (sym same) gathers.uses;
  listed = subst (All (IsListed es)) (sym same) gathers.listed;
}
