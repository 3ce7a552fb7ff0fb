-- Two operands that are ints without errors and no calls are proved to have no error but that of their operator.
use Rattle.std.proofs.Common.{◌≡◌, List, ◌++◌, Option, Some, None, is_some, ap₂, sym, ◌∙◌}
use Rattle.ti_base.specs.declared.place.Place.{Place}
use Rattle.ti_syntax.specs.declared.tree.exprs.BinaryOperator.{BinaryOperator}
use Rattle.ti_lang.specs.Program.Types.{ValueType, Int}
use Rattle.ti_lang.specs.Typing.Alike.{erase_dims}
use Rattle.ti_lang.specs.Typing.Operators.{binary_type}
use Rattle.ti_lang.specs.Typing.Expressions.{ExprTyping, plain, operand}
use Rattle.ti_rules.specs.declared.refusal.Refusal.{Refusal}
use Rattle.ti_rules.specs.Mirrors.First.{earlier_of, earliest}
use Rattle.ti_rules.specs.Broken.Refused.{both_judged, operand_refusal}
use Rattle.ti_rules.specs.Broken.Misplaced.{misplaced_at}

-- what is wrong between operands of these types
abbrev wrong : BinaryOperator → Place → Option ValueType → Option ValueType → List Refusal
wrong op at o q =
    both_judged o q (λ t u. operand_refusal at (is_some (binary_type op t u))
    (is_some (binary_type op (erase_dims t) (erase_dims u))))

-- what counts of what is wrong with operands of these typings and errors, and between them
abbrev counting : BinaryOperator → Place → Place → Place → ExprTyping → ExprTyping → Option Refusal
    → Option Refusal → Option Refusal
counting op inner other at x y f g =
    earlier_of (earlier_of f g) (earliest ((misplaced_at inner x ++ misplaced_at other y)
    ++ wrong op at (operand x) (operand y)))

own_counts : (op : BinaryOperator) (inner other at : Place) (own : Option Refusal)
    → own ≡ earliest (wrong op at (Some Int) (Some Int))
    → own ≡ counting op inner other at (plain (Some Int)) (plain (Some Int)) None None
unfolding earlier_of
own_counts op inner other at own e = e

-- of two ints without errors, only what the operator itself says counts
pub ints_sound : (op : BinaryOperator) (inner other at : Place) (x y : ExprTyping)
    (f g own : Option Refusal)
    → x ≡ plain (Some Int) → y ≡ plain (Some Int) → f ≡ None → g ≡ None
    → own ≡ earliest (wrong op at (Some Int) (Some Int)) → own ≡ counting op inner other at x y f g
ints_sound op inner other at x y f g own a b c d e =
    own_counts op inner other at own e
    ∙ sym (ap₂ (λ (p q : ExprTyping). counting op inner other at p q None None) a b)
    ∙ sym (ap₂ (λ (p q : Option Refusal). counting op inner other at x y p q) c d)
