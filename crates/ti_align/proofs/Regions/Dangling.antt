-- In every run of a checked program nothing dangles, and the cells that are there are counted.
use Rattle.std.proofs.Common.{◌≡◌, ℕ, zero, suc, ◌==◌, Bool, true, false, ◌&&◌, ◌||◌, Option, Some, None, List, refl, ap, ap₂, sym, ◌∙◌, subst, eqb-true}
use Rattle.ti_base.specs.declared.action.Action.TheVariants as act
use Rattle.ti_base.specs.declared.action.CollKind.{CollKind}
use Rattle.ti_base.specs.declared.action.CollKind.TheVariants as coll
use Rattle.ti_base.specs.declared.entry.Entry.{Entry}
use Rattle.ti_base.specs.declared.entry.Next.TheVariants as next
use Rattle.ti_lang.specs.Program.Classes.{ProgramView}
use Rattle.ti_lang.specs.Meaning.Processes.{RunConfig}
use Rattle.ti_lang.specs.Meaning.Histories.{history_of, is_departure, arrivals}
use Rattle.ti_lang.specs.Meaning.RoundsOf.{Arrival, arrival_at, last_arrival, is_delete_of, deletes}
use Rattle.ti_lang.specs.Meaning.RegionsOf.{is_gone}
use Rattle.ti_lang.specs.Meaning.NextStep.{IsNext}
use Rattle.ti_lang.specs.Meaning.Runs.{IsRun}
use Rattle.ti_lang.specs.Meaning.Runs as run
use Rattle.ti_lang.proofs.Lemmas.{history_grows}
use Rattle.ti_rules.specs.ProgramRefusals.{IsChecked}
use Rattle.ti_align.specs.Alignment.{OfEveryRun}
use Rattle.ti_rules.specs.Mirrors.Literals.{LiteralsFit}
use Rattle.ti_align.specs.Counted.{CellsCounted}
use Rattle.ti_align.specs.Dangling.{NothingDangles}
use Rattle.ti_align.proofs.Runs.Vars.{not_true}
use Rattle.ti_align.proofs.RunTypes.Operating.{none_some}
use Rattle.ti_align.proofs.Alignment.Rounds.{seen}
use Rattle.ti_align.proofs.Alignment.Aligning.{run_before}
use Rattle.ti_align.proofs.Scope.Keeping.{ProgramStands}
use Rattle.ti_align.proofs.Regions.Regional.{MethodsAreSuch}
use Rattle.ti_align.proofs.Regions.Deleting.{DeletesSome}
use Rattle.ti_align.proofs.Regions.Deleted.{no_round, deletes_some}
use Rattle.ti_align.proofs.Scope.Using.{checked_stands}
use Rattle.ti_align.proofs.TextTypes.Programs.{checked_fits}
use Rattle.ti_align.proofs.Regions.Regioned.{checked_such}
use Rattle.ti_align.proofs.Alignment.Checked.{checked_fine}
use Rattle.ti_align.proofs.Owners.Counted.{cells_counted}
use Rattle.ti_align.proofs.Regions.Lasting.{RunLives}
use Rattle.ti_align.proofs.RunTypes.Holding.{run_lives, next_lives}
use Rattle.ti_align.proofs.Runs.EveryRun as every

-- ---- 0 is no region

module _ (s : RunConfig) (stands : ProgramStands s.program) (such : MethodsAreSuch s.program s.program.methods) where
  -- each region that is deleted has a number above 0
  some_deleted : (es : List Entry) → IsRun s es → (i : ℕ) (a : Arrival) → last_arrival i (history_of es) ≡ Some a → DeletesSome a.kind a.arg
  some_deleted es ran i a z = by (arrivals i (history_of es)) z
    where
      by : (n : ℕ) → arrival_at i n (history_of es) ≡ Some a → DeletesSome a.kind a.arg
      by zero z = absurd (none_some a (sym (no_round i (history_of es)) ∙ z))
      by (suc k) z =
          let x = seen s es ran i k a z in
          let y = x.1 in
          let n : IsNext y.process (next.Act x.0.place (act.Arrive x.0.kind x.0.arg y.deposit)) = (y.settled, y.settles) in
          subst (λ k. DeletesSome k a.arg) x.2 (subst (DeletesSome x.0.kind) x.3
          (deletes_some s stands such y.before (run_before s es y.before y.rest _ ran y.split) i y.process x.0.place x.0.kind x.0.arg
          y.deposit y.world n))

  not_none : (kind : CollKind) (arg : Option ℕ) → DeletesSome kind arg → deletes 0 kind arg ≡ false
  not_none coll.DeleteRegion arg k = let n = k refl in ap (deletes 0 coll.DeleteRegion) n.1 ∙ not_true (n.0 == 0) (λ z. n.2 (eqb-true n.0 0 z))
  not_none coll.Barrier arg k = refl
  not_none coll.Broadcast arg k = refl
  not_none coll.Exchange arg k = refl
  not_none coll.MakeRegion arg k = refl

  zero_stays : (es : List Entry) → IsRun s es → (i : ℕ) → is_delete_of 0 (last_arrival i (history_of es)) ≡ false
  zero_stays es ran i = by (last_arrival i (history_of es)) refl
    where
      by : (o : Option Arrival) → last_arrival i (history_of es) ≡ o → is_delete_of 0 o ≡ false
      by None z = refl
      by (Some a) z = not_none a.kind a.arg (some_deleted es ran i a z)

  zero_there : (es : List Entry) → IsRun s es → is_gone 0 (history_of es) ≡ false
  zero_there es run.none = refl
  zero_there all (run.more {es = es} {e = e} ran t z) =
      subst (λ h. is_gone 0 h ≡ false) (sym (ap history_of z ∙ history_grows es e)) (ap₂ (λ x y. x || y) (both_false (is_departure e.act) _ (zero_stays es ran e.proc)) (zero_there es ran))
    where
      both_false : (a b : Bool) → b ≡ false → (a && b) ≡ false
      both_false true b z = z
      both_false false b z = refl

-- ---- checked programs

-- what lives in a run
lives : (p : ProgramView) → IsChecked p → LiteralsFit p → OfEveryRun RunLives p
lives p c l procs fuel es a b d e w =
    run_lives (record { program = p; procs = procs; fuel = fuel }) (checked_fits p c l) (checked_fine p c) b (λ ds r. every.arrivals_agree p c procs fuel ds a b d e r) es w

pub nothing_dangles : (p : ProgramView) → IsChecked p → LiteralsFit p → OfEveryRun NothingDangles p
nothing_dangles p c l procs fuel es a b d e w =
    let s : RunConfig = record { program = p; procs = procs; fuel = fuel } in record {
      actions = next_lives s (checked_fits p c l) (checked_fine p c) b es w (lives p c l procs fuel es a b d e w);
      nowhere = zero_there s (checked_stands p c l) (checked_such p c l) es w;
    }

pub cells_are_counted : (p : ProgramView) → IsChecked p → LiteralsFit p → OfEveryRun (λ s es. CellsCounted s.program (history_of es)) p
cells_are_counted p c l procs fuel es a b d e w = cells_counted p (history_of es) (lives p c l procs fuel es a b d e w).counted
