use Rattle.ti_eval.specs.declared.frame.Resume.TheVariants.{From}
use Rattle.ti_exec.proofs.normalization.item_next.Goals as goal

pub returns-in_default-resume : goal.returns-in_default-resume
returns-in_default-resume c = record { some = tt; none = λ n h e. c.in_default-resume.not-From n cc }

pub returns-in_default : goal.returns-in_default
returns-in_default c = record { some = tt; none = λ n h e. c.in_default.not-Walks (From n) h }
