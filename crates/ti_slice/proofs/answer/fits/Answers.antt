use Rattle.ti_lang.specs.Program.Views.{program_of}
use Rattle.ti_eval.specs.Envs.{env_of}
use Rattle.ti_moves.specs.Receiving.{stm_seen}
use Rattle.ti_slice.proofs.Meeting.{fits_expected}
use Rattle.ti_slice.proofs.answer.fits.Goals as goal

pub returns-in-Expects : goal.returns-in-Expects
returns-in-Expects c =
    let env = env_of c.env.result in
    fits_expected (program_of c.args.parts.now) c.args.machine.now _ c.args.outcome.now env
    (stm_seen c.waiting_statement.result) c.fits_departure.result c.in-Expects.is c.env.ensures
    (c.waiting_statement.ensures env) c.fits_departure.ensures.yes c.fits_departure.ensures.no
