use Rattle.ti_machine.proofs.laws.following_code_goes_on.Goals as goal

pub returns : goal.returns
returns c = λ s program f a b d e g q n fit after is. f s.procs s.fuel s.number a b d e g s.answers q n fit after is
