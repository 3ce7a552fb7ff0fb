-- A process on a worker may go from one thread to another, and a worker may share the rest.
use base.Fml.{Lft}
use mathlib.Core.List.{List, [], ◌∷◌}
use mir.Syntax.{Lifetime, Sym}
use denote.Hole.{as_row}
use denote.RattleType.{RattleType}
use denote.Struct.Field.{row_field}
use denote.Ref.{ShrRef}
use denote.Struct.Tuple.{TupleAt, type_at}
use denote.Param.{param}
use denote.Param.Send.{IsSend, IsSync, sendable, shr_send}
use denote.Param.SendFields.{as_row_send, as_row_sync, declared_send}
use Rattle.std.proofs.Crossing.{crosses, send}
use Rattle.std.specs.contracts.alloc.Global as heap
use Rattle.std.specs.contracts.impls.GlobalAllocator.TheImpl as heap_impl
use Rattle.std.specs.contracts.sync.atomic.AtomicBool as flag
use Rattle.std.specs.contracts.vec.Vec as vec
use Rattle.ti_base.specs.contracts.action.CollKind as collective
use Rattle.ti_base.specs.contracts.entry.Entry as entry
use Rattle.ti_base.specs.contracts.place.Place as place
use Rattle.ti_base.specs.contracts.value.Value as value
use Rattle.ti_base.specs.contracts.value.Zero as zero
use Rattle.ti_base.specs.declared.entry.Entry.{Entry}
use Rattle.ti_code.specs.contracts.code.Code as code
use Rattle.ti_code.specs.contracts.code.Instrs as instrs
use Rattle.ti_code.specs.contracts.code.MethodCode as method
use Rattle.ti_code.specs.contracts.instr.Instr as instr
use Rattle.ti_code.specs.contracts.instr.ValueMember as member
use Rattle.ti_code.specs.contracts.instr.OneOperand as one_operand
use Rattle.ti_code.specs.contracts.instr.Operation as operation
use Rattle.ti_machine.proofs.Lemmas.{process_send}
use Rattle.ti_store.proofs.Lemmas.{store_send}
use Rattle.ti_store.specs.contracts.store.Store as store
use Rattle.ti_store.specs.declared.store.Store.{Store}
use Rattle.ti_store.specs.declared.run_config.RunConfigOf as terms
use Rattle.ti_turnstile.proofs.Lemmas as of_turnstile
use Rattle.ti_turnstile.specs.contracts.turnstile.Turnstile as turnstile
use Rattle.ti_turnstile.specs.declared.kept.Kept as kept
use Rattle.ti_runtime.specs.contracts.threads.task.Task as task
use Rattle.ti_pending.specs.contracts.pending.PendingProc as pending
use Rattle.ti_runtime.specs.declared.code_of.CodeOf as code_of

-- ---- code

place_sync : IsSync place.the_field.row
place_sync = search sendable depth 20

value_sync : IsSync value.the_field.row
value_sync = search sendable depth 60 fits 40000

zero_sync : IsSync zero.the_field.row
zero_sync = search sendable depth 60 fits 40000

collective_sync : IsSync collective.the_field.row
collective_sync = search sendable depth 60 fits 40000

operation_sync : IsSync operation.the_field.row
operation_sync = search sendable depth 60 fits 40000

one_operand_sync : IsSync one_operand.the_field.row
one_operand_sync = search sendable depth 60 fits 40000

member_sync : IsSync member.the_field.row
member_sync = search sendable depth 60 fits 40000

instr_sync : IsSync instr.the_field.row
instr_sync = search (sendable, crosses, place_sync, value_sync, zero_sync, collective_sync, operation_sync, one_operand_sync, member_sync) depth 60 fits 40000

instrs_sync : IsSync instrs.the_field.row
instrs_sync = search (sendable, crosses, instr_sync) depth 20

method_sync : IsSync method.the_field.row
method_sync = search (sendable, crosses, instrs_sync) depth 20

code_kept : IsSync code.the_field.row
code_kept = search (sendable, crosses, method_sync) depth 20

pub code_sync : IsSync code.the_row
code_sync = as_row_sync code.the_field code_kept

-- ---- processes

pending_send : IsSend pending.the_field.row
pending_send = search (sendable, crosses, process_send) depth 14

pub flag_sync : IsSync flag.the_row
flag_sync = search (sendable, crosses) depth 14

ref_send : (ℓ : Lifetime) (κ : Lft) (R : RattleType) → IsSync R → IsSend (as_row (row_field (ShrRef ℓ κ R)))
ref_send ℓ κ R s = as_row_send (row_field (ShrRef ℓ κ R)) (shr_send ℓ κ R s)

module _ (J : RattleType) (g : terms.Ghosts J.Denot) (b : code_of.Ghosts J.Denot) (k : kept.Ghosts (Store J.Denot) Entry) where
  pub task_send : IsSend (task.the_row J k g b)
  task_send = search (sendable, crosses, pending_send, of_turnstile.pass_send, store_send) depth 14 fits 20000

  pub turnstile_sync : IsSync (turnstile.the_row (store.the_row J g) entry.the_row k)
  turnstile_sync = as_row_sync (turnstile.the_field (store.the_row J g) entry.the_row k) (of_turnstile.turnstile_sync (store.the_row J g) entry.the_row k (store_send J g))

  pub tasks_send : IsSend (vec.the_row (task.the_row J k g b) heap.the_row heap_impl.ghosts)
  tasks_send = search (crosses, task_send) depth 6

  module _ (R G : RattleType) (ℓ₁ ℓ₂ ℓ₃ ℓ₄ ℓ₅ : Lifetime) (κ₁ κ₂ κ₃ κ₄ κ₅ : Lft) where
    abbrev pub captures : List RattleType
    captures = ShrRef ℓ₁ κ₁ (param 2 R) ∷ heap.the_row ∷ ShrRef ℓ₂ κ₂ code.the_row ∷ ShrRef ℓ₃ κ₃ (param 3 G) ∷ ShrRef ℓ₄ κ₄
        (turnstile.the_row (store.the_row J g) entry.the_row k) ∷ ShrRef ℓ₅ κ₅ flag.the_row ∷ vec.the_row
        (task.the_row J k g b) heap.the_row heap_impl.ghosts ∷ []

    pub job_send : (ν : Sym) → IsSync (param 2 R) → IsSync (param 3 G) → IsSend (TupleAt ν captures)
    job_send ν r q =
        declared_send (type_at ν captures) (
          ref_send ℓ₁ κ₁ (param 2 R) r,
          (
            as_row_send (row_field heap.the_row) send,
            (
              ref_send ℓ₂ κ₂ code.the_row code_sync,
              (
                ref_send ℓ₃ κ₃ (param 3 G) q,
                (
                  ref_send ℓ₄ κ₄ (turnstile.the_row (store.the_row J g) entry.the_row k) turnstile_sync,
                  (
                    ref_send ℓ₅ κ₅ flag.the_row flag_sync,
                    (as_row_send (row_field (vec.the_row (task.the_row J k g b) heap.the_row heap_impl.ghosts)) tasks_send, tt),
                  ),
                ),
              ),
            ),
          ),
        )
