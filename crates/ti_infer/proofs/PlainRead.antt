-- What isn't single under a marking isn't single in the marked program.
use Rattle.std.proofs.Common.{◌≡◌, Bool, not, Option, Some, None, option_map, refl, ap, sym, ◌∙◌}
use Rattle.std.specs.Option.{option_map_or}
use Rattle.ti_lang.specs.Program.Expressions.{NumberedExp}
use Rattle.ti_lang.specs.Program.Classes.{NumberedMethod, ProgramView}
use Rattle.ti_lang.specs.Program.Scope.{ScopeContents, this_of}
use Rattle.ti_lang.specs.Typing.Called.{called_method}
use Rattle.ti_lang.specs.Typing.Singleness.{has_single_result, is_single_part}
use Rattle.ti_rules.specs.StmtInContext.{scope_of, singles_in}
use Rattle.ti_rules.specs.SingleRules.{is_plain}
use Rattle.ti_blame.specs.Marks.{Marks}
use Rattle.ti_infer.specs.Marks.{marks_variable}
use Rattle.ti_infer.specs.Marked.{marked_exp, marked_method, marked}
use Rattle.ti_infer.specs.Reason.{blame_around, plain_here}
use Rattle.ti_infer.specs.Mirrors.SingleUnder.{variable_under, single_under}
use Rattle.ti_infer.proofs.Same.{this_same, call_same}
use Rattle.ti_infer.proofs.Under.{under}

module _ (p : ProgramView) (m : NumberedMethod) (marks : Marks) (s : ScopeContents) (this : s.this_class ≡ this_of m) where
  part_is : (x : NumberedExp) → single_under p s.this_class (variable_under marks m (singles_in s)) x
      ≡ is_single_part (marked marks p) (this_of (marked_method marks m)) (singles_in (scope_of (blame_around p m marks s.variables)))
      (marked_exp (marks_variable marks m) x)
  part_is x =
      ap (λ th. single_under p th (variable_under marks m (singles_in s)) x) this ∙ sym (under p (this_of m) marks m (singles_in s) x)
      ∙ sym (ap (λ th. is_single_part (marked marks p) th (singles_in s) (marked_exp (marks_variable marks m) x)) (this_same marks m))

  pub plain_is : (x : NumberedExp) → not (single_under p s.this_class (variable_under marks m (singles_in s)) x) ≡ plain_here p m marks s.variables x
  plain_is x = ap not (part_is x)

  -- a whole right side
  pub whole_is : (x : NumberedExp) → not (option_map_or (λ y. has_single_result (marked_method marks y)) (called_method p (this_of m) x)
      (single_under p s.this_class (variable_under marks m (singles_in s)) x))
      ≡ is_plain (marked marks p) (blame_around p m marks s.variables) (marked_exp (marks_variable marks m) x)
  whole_is x = ap not (ap (option_map_or (λ y. has_single_result (marked_method marks y)) (called_method p (this_of m) x)) (part_is x)
      ∙ chosen (called_method p (this_of m) x) _
      ∙ sym (ap (λ o. option_map_or has_single_result o (is_single_part (marked marks p) (this_of (marked_method marks m))
      (singles_in (scope_of (blame_around p m marks s.variables))) (marked_exp (marks_variable marks m) x))) called))
    where
      chosen : (o : Option NumberedMethod) (b : Bool) → option_map_or (λ y. has_single_result (marked_method marks y)) o b ≡ option_map_or has_single_result (option_map (marked_method marks) o) b
      chosen None b = refl
      chosen (Some y) b = refl

      called : called_method (marked marks p) (this_of (marked_method marks m)) (marked_exp (marks_variable marks m) x) ≡ option_map (marked_method marks) (called_method p (this_of m) x)
      called = ap (λ th. called_method (marked marks p) th (marked_exp (marks_variable marks m) x)) (this_same marks m) ∙ call_same marks p (this_of m) (marks_variable marks m) x
