use Rattle.ti_eval.specs.declared.frame.Resume.TheVariants.{Inside}
use Rattle.ti_exec.proofs.normalization.is_done.Goals as goal

pub returns-in_default-resume : goal.returns-in_default-resume
returns-in_default-resume c = record { yes = λ h. cc; no = λ h. absurd (c.in_default-resume.not-Inside cc) }

pub returns-in_default : goal.returns-in_default
returns-in_default c = record { yes = λ h. cc; no = λ h. absurd (c.in_default.not-Walks Inside h) }
