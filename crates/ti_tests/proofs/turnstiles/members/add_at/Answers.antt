use Rattle.std.proofs.Common.{◌≡◌}
use Rattle.ti_turnstile.specs.Turnstiles.{identity_of, turnstile_of}
use Rattle.ti_tests.specs.declared.turnstiles.members.NumberedPass.{NumberedPass}
use Rattle.ti_tests.proofs.Dealing.{all_turned}
use Rattle.ti_tests.proofs.turnstiles.members.add_at.Goals as goal

pub returns-clause-turnstile : goal.returns-clause-turnstile
returns-clause-turnstile g c = all_turned (λ (m : NumberedPass). turnstile_of m.pass
    ≡ identity_of c.args.turnstile.now) c.args.members.now.items c.remove-member.new.self.items c.insert.new.self.items c.args.at
    c.add_one-member.result c.requires.turnstile c.remove-member.ensures.items c.add_one-member.ensures c.in-Ok.ensures.items
