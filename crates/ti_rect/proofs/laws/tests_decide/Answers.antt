use Rattle.ti_rect.proofs.TestLaws.{in_tests, leaves_tests}
use Rattle.ti_rect.proofs.laws.tests_decide.Goals as goal

pub returns-clause-inside : goal.returns-clause-inside
returns-clause-inside c = in_tests

pub returns-clause-leaves : goal.returns-clause-leaves
returns-clause-leaves c = leaves_tests
