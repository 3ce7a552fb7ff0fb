-- In every run of a checked program each region that a process comes to delete was made. So a checked program is aligned.
use Rattle.std.proofs.Common.{[], ◌∷◌, sym, ap, ◌∙◌, subst, ◌≡◌, ◌⊎◌, inl, inr, ℕ, true, List, Bool, false, refl}
use Rattle.ti_base.specs.declared.action.Action.{Action}
use Rattle.ti_base.specs.declared.action.Action.TheVariants as act
use Rattle.ti_base.specs.declared.action.CollKind.TheVariants as coll
use Rattle.ti_base.specs.declared.entry.Next.TheVariants as next
use Rattle.ti_lang.specs.Meaning.NextStep.{IsNext}
use Rattle.ti_lang.specs.Meaning.HeapAnswers.{Impossible, heap_answer}
use Rattle.ti_align.proofs.Runs.Vars.{true_false}
use Rattle.ti_base.specs.declared.value.Value.TheVariants as v
use Rattle.ti_lang.specs.Program.Types as t
use Rattle.ti_lang.specs.Meaning.Held.{Held, Plain}
use Rattle.ti_lang.specs.Meaning.Processes.{Variable, Frame}
use Rattle.ti_lang.specs.Meaning.Histories.{History}
use Rattle.ti_align.specs.HeapTyping.{HeapTyping, IsPlaced, IsOf, VariablesFit}
use Rattle.ti_align.specs.Heap.{Elements, heap_typing_of}
use Rattle.ti_align.specs.Mirrors.Processes.{FramesFit}
use Rattle.ti_align.specs.Stopping.{HoldMade, AllHoldMade, RegionsMade, is_delete_arrival, NoneImpossible}
use Rattle.ti_align.proofs.Regions.Regional.{AllGood}
use Rattle.ti_rules.specs.InitialTypes.{is_region_type}
use Rattle.ti_align.proofs.Regions.Deleting.{AllSuch}
use Rattle.ti_align.proofs.Regions.Deleted.{run_hands}
use Rattle.ti_base.specs.declared.entry.Entry.{Entry}
use Rattle.ti_lang.specs.Program.Classes.{ProgramView}
use Rattle.ti_lang.specs.Meaning.Processes.{RunConfig}
use Rattle.ti_lang.specs.Meaning.Histories.{history_of}
use Rattle.ti_lang.specs.Meaning.Runs.{AllEnded}
use Rattle.ti_rules.specs.ProgramRefusals.{IsChecked}
use Rattle.ti_rules.specs.Mirrors.Literals.{LiteralsFit}
use Rattle.ti_align.specs.Alignment.{NoneStuck, OfEveryRun, IsAligned}
use Rattle.ti_align.proofs.Alignment.Stopping.{DeletesNothing}
use Rattle.ti_align.proofs.Scope.Using.{checked_stands}
use Rattle.ti_align.proofs.TextTypes.Programs.{checked_fits}
use Rattle.ti_align.proofs.Regions.Regioned.{checked_such}
use Rattle.ti_align.proofs.Regions.Presence as presence
use Rattle.ti_align.proofs.Alignment.Checked.{checked_fine}
use Rattle.ti_align.proofs.RunTypes.Storing.{held_of}
use Rattle.ti_align.proofs.RunTypes.Holding.{known_of}
use Rattle.ti_align.proofs.Runs.EveryRun as every

-- ---- regions

-- a region that is none or was made, and isn't none
made_held : (w : HeapTyping) (h : Held) → (r : ℕ) × (h ≡ Plain (v.Region r)) × (r ≡ 0 → ⊥) → IsOf w t.Region h → (r : ℕ) × (h ≡ Plain (v.Region r)) × (w.is_made r ≡ true)
made_held w h (r, z, f) (n, y, k) = (r, z, by (subst (IsPlaced w) (same n r (sym y ∙ z)) k))
  where
    same : (n r : ℕ) → Plain (v.Region n) ≡ Plain (v.Region r) → n ≡ r
    same n r z = cc

    by : IsPlaced w r → w.is_made r ≡ true
    by (inl e) = absurd (f e)
    by (inr e) = e

variables_made : (i : ℕ) (elements : Elements) (h : History) (xs : List Variable) → AllGood xs → VariablesFit (heap_typing_of i elements h) xs → HoldMade h xs
variables_made i elements h [] g k = tt
variables_made i elements h (x ∷ xs) g k = (
  λ z. made_held (heap_typing_of i elements h) x.held (g.0 (ap is_region_type z))
      (subst (λ a. IsOf (heap_typing_of i elements h) a x.held) z (held_of (heap_typing_of i elements h) x.named.declared x.held k.0)),
  variables_made i elements h xs g.1 k.1,
)

frames_made : (p q : ProgramView) (i : ℕ) (elements : Elements) (h : History) (fs : List Frame) → AllSuch p fs → FramesFit q (heap_typing_of i elements h) fs → AllHoldMade h fs
frames_made p q i elements h [] g k = tt
frames_made p q i elements h (f ∷ fs) g k = (variables_made i elements h f.variables g.0.0 k.0.0, frames_made p q i elements h fs g.1 k.2)

pub regions_made : (p : ProgramView) → IsChecked p → LiteralsFit p → OfEveryRun RegionsMade p
regions_made p c l procs fuel es a b d e w =
    let s : RunConfig = record { program = p; procs = procs; fuel = fuel } in
    let fit = (every.run_typed p c l procs fuel es a b d e w).fits in record {
      held = λ i q within x. frames_made p q.setting.program i fit.elements (history_of es) q.frames
          (run_hands s (checked_stands p c l) (checked_such p c l) es w i q x).1 (fit.processes i q within x).0;
      deleted = presence.deletes_made s (known_of s (checked_fits p c l) (checked_fine p c) b) (checked_stands p c l) (checked_such p c l) es w fit;
    }

-- ---- what is asked

pub none_impossible : (p : ProgramView) → IsChecked p → LiteralsFit p → OfEveryRun NoneImpossible p
none_impossible p c l procs fuel es a b d e w i q at x within v n r o = by (is_delete_arrival x) refl
  where
    deleting : (x : Action) → is_delete_arrival x ≡ true → IsNext q (next.Act at x) → heap_answer p (history_of es) i x ≡ Impossible → ⊥
    deleting (act.Arrive coll.DeleteRegion arg given) k n o =
        presence.delete_possible (record { program = p; procs = procs; fuel = fuel })
        (known_of (record { program = p; procs = procs; fuel = fuel }) (checked_fits p c l) (checked_fine p c) b) (checked_stands p c l)
        (checked_such p c l) es w (every.run_typed p c l procs fuel es a b d e w).fits i q at arg given within v n o
    deleting _ k n o = absurd (true_false (sym k))

    by : (b : Bool) → is_delete_arrival x ≡ b → ⊥
    by true k = deleting x k n o
    by false k = every.none_impossible p c l procs fuel es a b d e w i q at x within v n r k o

-- ---- alignment

-- so no process comes to the delete of a region that isn't there
never_stuck : (p : ProgramView) → IsChecked p → LiteralsFit p → OfEveryRun (λ s es. (i : ℕ) → DeletesNothing s es i → ⊥) p
never_stuck p c l procs fuel es a b d e w =
    presence.none_stuck (record { program = p; procs = procs; fuel = fuel })
    (known_of (record { program = p; procs = procs; fuel = fuel }) (checked_fits p c l) (checked_fine p c) b) (checked_stands p c l)
    (checked_such p c l) es w (every.run_typed p c l procs fuel es a b d e w).fits

end_or_stuck : (s : RunConfig) (es : List Entry) → ((i : ℕ) → DeletesNothing s es i → ⊥) → AllEnded s es ⊎ ((i : ℕ) × DeletesNothing s es i) → AllEnded s es
end_or_stuck s es f (inl x) = x
end_or_stuck s es f (inr x) = absurd (f x.0 x.1)

pub none_stuck : (p : ProgramView) → IsChecked p → LiteralsFit p → OfEveryRun NoneStuck p
none_stuck p c l procs fuel es a b d e w f n =
    end_or_stuck (record { program = p; procs = procs; fuel = fuel }) es (never_stuck p c l procs fuel es a b d e w) (every.none_waits p c l procs fuel es a b d e w f n)

-- a checked program is aligned
pub aligned : (p : ProgramView) → IsChecked p → LiteralsFit p → IsAligned p
aligned p c l procs fuel es a b d e w = record {
  arrivals_agree = every.arrivals_agree p c procs fuel es a b d e w;
  none_after_end = every.none_after_end p c procs fuel es a b d e w;
  none_stuck = none_stuck p c l procs fuel es a b d e w;
}
