-- Proves what work of a copy is pending.
use Rattle.std.proofs.Common.{◌≡◌, ◌∙◌, ap, refl, sym, ℕ, List, [], ◌∷◌, None}
use Rattle.std.specs.declared.alloc.Global.{Global}
use Rattle.std.specs.declared.boxed.Box.{Box}
use Rattle.ti_base.specs.declared.place.Place.{Place}
use Rattle.ti_base.specs.declared.point.Point.{Point}
use Rattle.ti_base.specs.declared.value.Id.{Id}
use Rattle.ti_lang.specs.Program.Expressions.{NumberedExp, NumberedExps, Member, NoExp, MoreExp}
use Rattle.ti_lang.specs.Program.Statements.{Call}
use Rattle.ti_lang.specs.Meaning.Comp.{Reference}
use Rattle.ti_lang.specs.Meaning.Copies.{first_type}
use Rattle.ti_lang.specs.Meaning.Held.{Held, points_in}
use Rattle.ti_lang.specs.Meaning.Processes.{CopyAll}
use Rattle.ti_lang.specs.Meaning.Scoping.{Env, type_of}
use Rattle.ti_eval.specs.declared.frame.Copy.{Copy}
use Rattle.ti_eval.specs.declared.frame.Resume.TheVariants.{Copying}
use Rattle.ti_eval.specs.Frames.{reference, first_reference, work_of}
use Rattle.ti_moves.specs.Outcomes.{context_in}
use Rattle.ti_moves.specs.References.{typed_reference}

-- what is named by the first of these expressions
first_named : (E : Env) (xs : NumberedExps) (id : Id) → typed_reference (first_type E xs) id ≡ first_reference (context_in E) xs id
first_named E NoExp id = refl
first_named E (MoreExp x xs) id = refl

-- behind both domains the points of both are left
pub copy_left : (E : Env) (at : Place) (x : NumberedExp) (name : ℕ) (xs : NumberedExps) (copy : Box Copy Global) (to from : Id) (domain : Held) (ps : List Point)
    → copy.value ≡ record { to = to; from = from; domain = domain } → points_in domain ≡ ps
    → CopyAll at (typed_reference (type_of E x) to) (typed_reference (first_type E xs) from) ps ∷ [] ≡ work_of (context_in E) (Call (Member at x name xs)) (Copying copy None)
copy_left E at x name xs copy to from domain ps is points =
    let site = context_in E in
    ap (λ (r : Reference). CopyAll at (reference site x to) r ps ∷ []) (first_named E xs from)
    ∙ ap (λ (qs : List Point). CopyAll at (reference site x to) (first_reference site xs from) qs ∷ []) (sym points)
    ∙ ap (λ (k : Copy). CopyAll at (reference site x k.to) (first_reference site xs k.from) (points_in k.domain) ∷ []) (sym is)
