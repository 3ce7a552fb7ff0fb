use Rattle.std.proofs.Common.{◌≡◌, ◌-◌, ◌∙◌, arith, length}
use Rattle.ti_turnstile.specs.Turnstiles.{identity_of, turnstile_of}
use Rattle.ti_tests.specs.declared.turnstiles.members.NumberedPass.{NumberedPass}
use Rattle.ti_tests.proofs.Dealing.{last_pass, one_longer, all_pushed}
use Rattle.ti_tests.proofs.turnstiles.members.members_of.Goals as goal

pub invariant_of-push : goal.invariant_of-push
invariant_of-push c =
    let left = c.pop.new.self.items in
    let out = c.in-Some.ensures.items in
    let below : length left ≡ c.loop-pass.number - 1 = omega (arith, one_longer _ left _ out, c.loop-pass.invariant.left) in
    record { same = (last_pass (identity_of c.args.turnstile.now) c.loop-pass.passes.items left c.in-Some.pass out c.loop-pass.invariant.new).1 ∙ below }

pub loop-pass-preserved : goal.loop-pass-preserved
loop-pass-preserved c =
    let id = identity_of c.args.turnstile.now in
    let P : NumberedPass → Type 0 = λ m. turnstile_of m.pass ≡ id in
    let inv = c.loop-pass.invariant in
    let left = c.pop.new.self.items in
    let pass = c.in-Some.pass in
    let out = c.in-Some.ensures.items in
    let pushed = c.in_ok-push.ensures.items in
    let last = last_pass id c.loop-pass.passes.items left pass out inv.new in
    record {
      left = omega (arith, one_longer _ left _ out, inv.left);
      count = omega (arith, one_longer _ left _ out, one_longer _ c.loop-pass.members.items _ pushed, inv.count);
      new = last.3;
      members = all_pushed P c.push.new.self.items c.loop-pass.members.items _ pushed inv.members last.0;
    }
