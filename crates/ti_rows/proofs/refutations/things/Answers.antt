use Rattle.std.proofs.Common.{◌≡◌, ◌<◌, pos, true, false, Some, refl, arith}
use Rattle.std.specs.Int.{int_wrap}
use Rattle.ti_base.specs.declared.value.Value.TheVariants as v
use Rattle.ti_base.specs.declared.action.Action.TheVariants as act
use Rattle.ti_base.specs.declared.action.CollKind.TheVariants as coll
use Rattle.ti_base.specs.declared.action.Deposit.TheVariants as deposit
use Rattle.ti_base.specs.declared.entry.Next.TheVariants as next
use Rattle.ti_base.specs.Cells.{Field}
use Rattle.ti_lang.specs.Typing.BuiltIn.{built_in}
use Rattle.ti_lang.specs.Typing.Declared.{named_field_type, instance_method}
use Rattle.ti_lang.specs.Meaning.Processes.{RunConfig}
use Rattle.ti_align.specs.Owners.{OwnersKept}
use Rattle.ti_align.specs.Dangling.{NothingDangles}
use Rattle.ti_align.specs.Stopping.{RegionsMade}
use Rattle.ti_rows.specs.Texts.{pl}
use Rattle.ti_rows.specs.Histories.{thing}
use Rattle.ti_rows.specs.Failing.{by_two}
use Rattle.ti_rows.specs.Simulation.{solo}
use Rattle.ti_rows.specs.Refuted.Programs as programs
use Rattle.ti_rows.proofs.Reached.{has_next, has_asked, fails}
use Rattle.ti_rows.proofs.refutations.things.Goals as goal

false_true : false ≡ true → ⊥
false_true e = cc

true_false : true ≡ false → ⊥
true_false e = cc

pub returns-clause-another_owner : goal.returns-clause-another_owner
unfolding int_wrap built_in named_field_type instance_method
returns-clause-another_owner c = fails OwnersKept programs.a_local_variable_of_another_process 5 (λ f.
    let s : RunConfig = by_two 1000 programs.a_local_variable_of_another_process in
    let w = has_asked s (solo s 5) 0 _ refl in
    false_true (f.actions 0 w.process w.settled _ w.go (omega arith) w.world w.reaches w.stands refl))

pub returns-clause-a_region_that_is_gone : goal.returns-clause-a_region_that_is_gone
unfolding int_wrap built_in named_field_type instance_method
returns-clause-a_region_that_is_gone c = fails NothingDangles programs.a_region_is_deleted_by_one 10 (λ f.
    let s : RunConfig = by_two 1000 programs.a_region_is_deleted_by_one in
    let a = act.PutField (thing 1 0 1) 0 (v.Int (pos 1)) in
    let w = has_next s (solo s 10) 1 (next.Act (pl 1 198) a) refl in
    let k = f.actions 1 w.process (pl 1 198) a (omega arith) w.world w.next in
    true_false k.used)

pub returns-clause-a_region_that_is_none : goal.returns-clause-a_region_that_is_none
unfolding int_wrap built_in named_field_type instance_method
returns-clause-a_region_that_is_none c = fails RegionsMade programs.no_region_is_deleted 0 (λ f.
    let s : RunConfig = by_two 1000 programs.no_region_is_deleted in
    let w = has_next s (solo s 0) 0 (next.Act (pl 1 94) (act.Arrive coll.DeleteRegion (Some 0) (deposit.Count 0))) refl in
    let k = f.deleted 0 w.process (pl 1 94) (Some 0) (deposit.Count 0) (omega arith) w.world w.next in
    false_true k.2)

pub returns-clause-a_thing_in_no_region : goal.returns-clause-a_thing_in_no_region
unfolding int_wrap built_in named_field_type instance_method
returns-clause-a_thing_in_no_region c = λ f. false_true (f.objects (thing 0 0 1) 0 refl)

pub returns-clause-a_name_too_large : goal.returns-clause-a_name_too_large
unfolding int_wrap built_in named_field_type instance_method
returns-clause-a_name_too_large c = λ f.
    let k : 4294967296 < 4294967296 = (f.objects (thing 0 4294967296 0) 0 refl).1 in
    omega (arith, k)

pub returns-clause-a_cell_of_nothing : goal.returns-clause-a_cell_of_nothing
unfolding int_wrap built_in named_field_type instance_method
returns-clause-a_cell_of_nothing c = λ f.
    let k = f.written (Field (thing 0 0 0) 0) (v.Int (pos 1)) refl in
    omega (arith, k.1)
