-- Proves that getting to the work at hand doesn't change the process.
use Rattle.std.proofs.Common.{◌≡◌, ◌∙◌, ap, sym, refl, ℕ, ◌+◌, ◌<◌, List, [], ◌∷◌, ◌++◌, map, reverse, drop, length, slice_get, unwrap_or, add-one, drop-cons}
use Rattle.std.proofs.lemmas.Option.{unwrap_or-slice_get}
use Rattle.std.proofs.lemmas.List.{reverse-append}
use Rattle.ti_lang.specs.Program.Classes.{ProgramView}
use Rattle.ti_lang.specs.Program.Statements.{NumberedStm, NumberedStms}
use Rattle.ti_lang.specs.Program.Statements as s
use Rattle.ti_lang.specs.Meaning.Processes.{Do, End}
use Rattle.ti_eval.specs.declared.frame.Resume.TheVariants as resume
use Rattle.ti_eval.specs.declared.frame.StmtFrame.{StmtFrame}
use Rattle.ti_eval.specs.declared.frame.ChildIndex.TheVariants as part
use Rattle.ti_eval.specs.Places.{list_of, child_of, inside}
use Rattle.ti_eval.specs.Frames.{MethodContext, list_in, pending_of}
use Rattle.ti_exec.specs.declared.process.CallFrame.{CallFrame}
use Rattle.ti_exec.specs.declared.process.ControlMode.{ControlMode}
use Rattle.ti_exec.specs.declared.process.ControlMode.TheVariants as mode
use Rattle.ti_exec.specs.States.{AtHandIn}

-- ---- the next statement of a list

part_item : (x : NumberedStm) (n : ℕ) → child_of x (part.Item n) ≡ unwrap_or (slice_get (list_in x) n) s.Empty
part_item (s.Block body) n = refl
part_item s.Empty n = refl
part_item (s.Declare at type variable value) n = refl
part_item (s.Assign at target value) n = refl
part_item (s.Update at op target y) n = refl
part_item (s.Step at op target) n = refl
part_item (s.Call y) n = refl
part_item (s.Print at what) n = refl
part_item (s.Barrier at) n = refl
part_item (s.If at e y) n = refl
part_item (s.IfElse at e y z) n = refl
part_item (s.While at e body) n = refl
part_item (s.For at first e update body) n = refl
part_item (s.Foreach at variable domain body) n = refl
part_item (s.Break at) n = refl
part_item (s.Continue at) n = refl
part_item (s.Return at value) n = refl

drop_at : (xs : List NumberedStm) (n : ℕ) → n < length xs → map Do (drop n xs) ≡ Do (unwrap_or (slice_get xs n) s.Empty) ∷ map Do (drop (n + 1) xs)
drop_at xs n h = ap (map Do) (drop-cons xs n s.Empty h) ∙ rw (add-one, unwrap_or-slice_get xs n s.Empty) refl

next_left : (site : MethodContext) (body : NumberedStms) (ls : List StmtFrame) (n : ℕ) → n < length (list_in (inside body ls))
    → Do (child_of (inside body ls) (part.Item n)) ∷ pending_of site body ls (resume.From (n + 1)) ≡ pending_of site body ls (resume.From n)
next_left site body [] n h = sym (drop_at (list_of body) n h)
next_left site body (l ∷ ls) n h =
    let x : NumberedStm = inside body (l ∷ ls) in
    let e : Do (child_of x (part.Item n)) ∷ map Do (drop (n + 1) (list_in x)) ≡ map Do (drop n (list_in x)) =
    ap (λ y. Do y ∷ map Do (drop (n + 1) (list_in x))) (part_item x n) ∙ sym (drop_at (list_in x) n h) in
    ap (λ ws. (ws ++ End x ∷ []) ++ pending_of site body ls l.resume) e

pub next_item : (site : MethodContext) (body : NumberedStms) (xs : List StmtFrame) (n : ℕ) → n < length (list_in (inside body (reverse xs)))
    → pending_of site body (reverse (xs ++ record { resume = resume.From (n + 1); inner = part.Item n } ∷ [])) resume.Here ≡ pending_of site body (reverse xs) (resume.From n)
next_item site body xs n h = rw reverse-append (next_left site body (reverse xs) n h)

-- ---- what is at hand

pub not_in_list : (c : ProgramView) (f : CallFrame) (m : ControlMode) → ((n : ℕ) → m ≡ mode.Walks (resume.From n) → ⊥) → (m ≡ mode.Walks resume.Inside → length f.levels.items ≡ 0) → AtHandIn c f m
not_in_list c f (mode.Walks (resume.From n)) other done = absurd (other n refl)
not_in_list c f (mode.Walks resume.Inside) other done = done refl
not_in_list c f _ other done = tt

pub ruleset settling = (next_item, not_in_list)
