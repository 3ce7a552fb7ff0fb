-- Proves how many variables there are, and how many of them refer to something in a region.
use Rattle.std.proofs.Common.{◌≡◌, ◌∙◌, ap, sym, refl, ℕ, suc, ◌+◌, ◌<◌, ◌≤◌, Bool, true, false, cond, List, [], ◌∷◌, ◌++◌, map, length, reverse, take, get_or, add-one, filter, count_by, arith}
use Rattle.std.proofs.Math.Seq.{take-suc}
use Rattle.std.proofs.lemmas.List.{length-map, length-reverse, reverse-append}
use Rattle.std.proofs.lemmas.List.Sums.{count_by-le-length, length-filter}
use Rattle.ti_lang.specs.Program.Types.{VariableUse}
use Rattle.ti_lang.specs.Meaning.Held.{Held}
use Rattle.ti_lang.specs.Meaning.Processes.{Variable}
use Rattle.ti_lang.specs.Meaning.Scoping.{same_variable, with_changed, without_variables}
use Rattle.ti_eval.specs.declared.frame.Slot.{Slot}
use Rattle.ti_eval.specs.Frames.{slot_of, slots_of}
use Rattle.ti_eval.proofs.Lemmas.{newest, one_more}

as_many : (xs : List Slot) → length (slots_of xs) ≡ length xs
as_many xs = length-map (reverse xs) slot_of ∙ length-reverse xs

one_for_one : (b : Bool) (w : Variable) (h : Held) (ws more : List Variable) → length more ≡ length (w ∷ ws) → length (cond b (record w { held = h } ∷ ws) more) ≡ length (w ∷ ws)
one_for_one true w h ws more e = refl
one_for_one false w h ws more e = e

as_many_changed : (x : VariableUse) (h : Held) (ws : List Variable) → length (with_changed x h ws) ≡ length ws
as_many_changed x h [] = refl
as_many_changed x h (w ∷ ws) = one_for_one (same_variable x w.named) w h ws _ (ap suc (as_many_changed x h ws))

-- a change makes no more of them
pub changed_few : (xs ys : List Slot) (x : VariableUse) (h : Held) → slots_of ys ≡ with_changed x h (slots_of xs) → length ys ≡ length xs
changed_few xs ys x h e = sym (as_many ys) ∙ ap length e ∙ as_many_changed x h (slots_of xs) ∙ as_many xs

-- nor does it when some leave
pub without_few : (xs ys : List Slot) (vs : List VariableUse) → slots_of ys ≡ without_variables vs (slots_of xs) → length ys ≤ length xs
without_few xs ys vs e =
    let a = as_many ys in
    let b = as_many xs in
    let d = ap length e in
    omega (arith, a, b, d, length-filter {X = Variable}, count_by-le-length {X = Variable})

pub ruleset few = (changed_few, without_few, one_more, newest, take-suc, reverse-append, count_by-le-length, length-reverse, length-map)
