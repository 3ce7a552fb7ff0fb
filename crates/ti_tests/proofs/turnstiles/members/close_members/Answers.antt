use Rattle.std.proofs.Common.{◌≡◌, arith}
use Rattle.ti_turnstile.specs.Turnstiles.{identity_of, turnstile_of}
use Rattle.ti_tests.specs.declared.turnstiles.members.NumberedPass.{NumberedPass}
use Rattle.ti_tests.proofs.Dealing.{one_longer, one_back, all_before, all_last}
use Rattle.ti_tests.proofs.turnstiles.members.close_members.Goals as goal

pub loop-member-preserved : goal.loop-member-preserved
loop-member-preserved c =
    let id = identity_of c.args.turnstile in
    let P : NumberedPass → Type 0 = λ m. turnstile_of m.pass ≡ id in
    let inv = c.loop-member.invariant in
    let left = c.pop.new.self.items in
    let member = c.in-Some.member in
    let out = c.in-Some.ensures.items in
    let back = c.in_ok-push.ensures.items in
    record {
      count = omega (arith, one_longer _ left member out, one_longer _ c.loop-member.passes.items member.pass back, inv.count);
      members = all_before P c.loop-member.members.items left member out inv.members;
      passes = one_back id c.push.new.self.items c.loop-member.passes.items member.pass back inv.passes (all_last P c.loop-member.members.items left member out inv.members);
    }
