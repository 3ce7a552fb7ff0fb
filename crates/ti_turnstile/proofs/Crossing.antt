-- Turnstiles may be shared between threads, and passes sent from one to another, if the value may be sent.
use denote.Builtin.{u32}
use denote.RattleType.{RattleType}
use denote.Param.Send.{IsSend, IsSync, sendable, struct_send, struct_sync}
use denote.Struct.Declared.{shape}
use denote.Param.SendFields.{as_row_send}
use Rattle.std.proofs.Crossing.{crosses, frees, send, Box-send}
use Rattle.std.specs.contracts.alloc.Global as heap
use Rattle.std.specs.contracts.boxed.Box as boxed
use Rattle.std.specs.contracts.option.Option as option
use Rattle.std.specs.contracts.sync.atomic.AtomicUsize as count
use Rattle.std.specs.contracts.impls.GlobalAllocator.TheImpl.{ghosts}
use Rattle.atomic_table.specs.declared.shared.TableRule.{Ghosts as Rules}
use Rattle.atomic_table.specs.contracts.owned.Table as table
use Rattle.atomic_table.specs.contracts.send_lease.SendLease as lease
use Rattle.atomic_table.proofs.send_lease.SendLease.TheSendSync as of_leases
use Rattle.atomic_table.proofs.shared.Seat.TheSendSync as of_seats
use Rattle.atomic_table.proofs.shared.Shared.TheSendSync as of_tables
use Rattle.ti_turnstile.specs.contracts.protocol.TurnstileRule as law
use Rattle.ti_turnstile.specs.contracts.protocol.TurnstileRuleTableRuleOptionBoxSeatViewItemU32.TheImpl as rule
use Rattle.ti_turnstile.specs.contracts.turnstile.Pass as pass
use Rattle.ti_turnstile.specs.contracts.turnstile.Turnstile as turnstile
use Rattle.ti_turnstile.specs.contracts.seat_view.SeatView as view
use Rattle.ti_turnstile.specs.declared.kept.Kept.{Ghosts}

abbrev box_row : RattleType → RattleType
box_row V = boxed.the_row V heap.the_row ghosts

option_send : (V : RattleType) → IsSend V → IsSend (option.the_row V)
option_send V s = as_row_send (option.the_field V) (search sendable depth 12)

-- a pass holds a seat of the table
pub pass_send : (V I : RattleType) (g : Ghosts V.Denot I.Denot) → IsSend V → IsSend (pass.the_field V I g).row
pass_send V I g s = struct_send (shape (pass.the_type V I g)) (of_seats.the_send (option.the_row (box_row V)) (view.the_row I) (option_send (box_row V) (Box-send V s)), tt)

lease_sync : (T : RattleType) → IsSync (lease.the_row T heap.the_row ghosts)
lease_sync T = of_leases.the_sync T heap.the_row ghosts send frees

table_sync : (S V K P : RattleType) (g : Rules P.Denot S.Denot V.Denot K.Denot) → IsSend S → IsSync (table.the_field S V K P heap.the_row g ghosts).row
table_sync S V K P g s = struct_sync (shape (table.the_type S V K P heap.the_row g ghosts)) (search (of_tables.the_sync, lease_sync, crosses, sendable) depth 20)

count_sync : IsSync count.the_field.row
count_sync = search (sendable, crosses) depth 14

-- a turnstile holds a table, and counts of those who sleep
pub turnstile_sync : (V I : RattleType) (g : Ghosts V.Denot I.Denot) → IsSend V → IsSync (turnstile.the_field V I g).row
turnstile_sync V I g s = struct_sync (shape (turnstile.the_type V I g)) (table_sync (option.the_row (box_row V)) (view.the_row I) u32 (law.the_row V) (rule.ghosts V I g rule.no_dict) (option_send (box_row V) (Box-send V s)), (count_sync, (count_sync, tt)))
