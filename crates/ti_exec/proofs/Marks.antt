-- Proves that break and continue find the marks of loops in the pending work.
use Rattle.std.proofs.Common.{◌≡◌, ◌∙◌, ap, sym, subst, refl, ℕ, ◌<◌, Bool, true, false, cond, ◌||◌, List, [], ◌∷◌, ◌++◌, map, drop, reverse, length, arith}
use Rattle.std.specs.List.{list_any}
use Rattle.std.proofs.lemmas.List.{reverse-append}
use Rattle.std.proofs.lemmas.List.Folds.{list_any-append}
use Rattle.std.proofs.Math.Bool.{or_comm}
use Rattle.ti_lang.specs.Program.Classes.{ProgramView}
use Rattle.ti_lang.specs.Program.Statements.{NumberedStm, NumberedStms}
use Rattle.ti_lang.specs.Program.Statements as s
use Rattle.ti_lang.specs.Meaning.Jumps.{has_mark, from_mark, past_mark, variables_at_mark}
use Rattle.ti_lang.specs.Meaning.Moves.{Breaks, Continues}
use Rattle.ti_lang.specs.Meaning.Performing.{declared_in}
use Rattle.ti_lang.specs.Meaning.Processes.{Variable, ContItem, Do, End, Before, Behind, Receive, CopyAll, TakeAll}
use Rattle.ti_lang.specs.Meaning.Scoping.{without_variables}
use Rattle.ti_lang.specs.Meaning.Steps.{To, moves}
use Rattle.ti_eval.specs.declared.frame.Resume.{Resume}
use Rattle.ti_eval.specs.declared.frame.Resume.TheVariants as resume
use Rattle.ti_eval.specs.declared.frame.StmtFrame.{StmtFrame}
use Rattle.ti_eval.specs.Places.{inside, list_of}
use Rattle.ti_eval.specs.Frames.{MethodContext, slots_of, list_in, work_of, work_of_body, pending_of, rest_of, end_of_for}
use Rattle.ti_exec.specs.declared.process.CallFrame.{CallFrame}
use Rattle.ti_exec.specs.declared.process.TreeMachine.{TreeMachine}
use Rattle.ti_exec.specs.States.{process_of, top_of, below_of, context_of_call, body_of, innermost_stmt, left_in, rest}
use Rattle.ti_exec.specs.Pending.{done_with}
use Rattle.ti_exec.specs.Marks.{is_mark, is_inside_loop}
use Rattle.ti_exec.proofs.Works.{left_within, left_inside}

-- ---- the end of a `for`

-- what holds of no end and of one holds of the end of a `for`
at_end_of_for : (P : List ContItem → Type 0) (x : NumberedStm) → P [] → P (End x ∷ []) → P (end_of_for x)
at_end_of_for P (s.For at first c update body) n e = e
at_end_of_for P s.Empty n e = n
at_end_of_for P (s.Declare at type variable value) n e = n
at_end_of_for P (s.Assign at target value) n e = n
at_end_of_for P (s.Update at op target y) n e = n
at_end_of_for P (s.Step at op target) n e = n
at_end_of_for P (s.Call y) n e = n
at_end_of_for P (s.Print at what) n e = n
at_end_of_for P (s.Barrier at) n e = n
at_end_of_for P (s.If at c y) n e = n
at_end_of_for P (s.IfElse at c y z) n e = n
at_end_of_for P (s.While at c body) n e = n
at_end_of_for P (s.Foreach at variable domain body) n e = n
at_end_of_for P (s.Block body) n e = n
at_end_of_for P (s.Break at) n e = n
at_end_of_for P (s.Continue at) n e = n
at_end_of_for P (s.Return at value) n e = n

-- ---- whether there is a mark

has_in_list : (xs : List NumberedStm) (x : NumberedStm) (ws : List ContItem) → has_mark ((map Do xs ++ End x ∷ []) ++ ws) ≡ has_mark ws
has_in_list [] x ws = refl
has_in_list (y ∷ xs) x ws = has_in_list xs x ws

has_in_body : (xs : List NumberedStm) → has_mark (map Do xs) ≡ false
has_in_body [] = refl
has_in_body (x ∷ xs) = has_in_body xs

has_in_work : (site : MethodContext) (x : NumberedStm) (t : Resume) (ws : List ContItem) → has_mark (work_of site x t ++ ws) ≡ (is_mark t || has_mark ws)
has_in_work site x (resume.From n) ws = has_in_list (drop n (list_in x)) x ws
has_in_work site x resume.Before ws = at_end_of_for (λ es. has_mark (es ++ ws) ≡ has_mark ws) x refl refl
has_in_work site x _ ws = refl

none_in_body : (body : NumberedStms) (t : Resume) → has_mark (work_of_body body t) ≡ false
none_in_body body (resume.From n) = has_in_body (drop n (list_of body))
none_in_body body _ = refl

-- a level behind which the mark of a loop is left
abbrev has_level : StmtFrame → Bool
has_level l = is_mark l.resume

-- the innermost first, before the outermost
has_in_left : (site : MethodContext) (body : NumberedStms) (o : StmtFrame) (ls : List StmtFrame) (t : Resume)
    → has_mark (pending_of site body (ls ++ o ∷ []) t) ≡ (is_mark t || list_any has_level ls)
has_in_left site body o [] t = has_in_work site (inside body (o ∷ [])) t (work_of_body body o.resume) ∙ ap (λ b. is_mark t || b) (none_in_body body o.resume)
has_in_left site body o (l ∷ ls) t =
    has_in_work site (inside body (l ∷ (ls ++ o ∷ []))) t (pending_of site body (ls ++ o ∷ []) l.resume) ∙ ap (λ b. is_mark t || b) (has_in_left site body o ls l.resume)

has_in_rest : (site : MethodContext) (body : NumberedStms) (o : StmtFrame) (ls : List StmtFrame) → has_mark (rest_of site body (ls ++ o ∷ [])) ≡ list_any has_level ls
has_in_rest site body o [] = none_in_body body o.resume
has_in_rest site body o (l ∷ ls) = has_in_left site body o ls l.resume

any_one : (p : StmtFrame → Bool) (x : StmtFrame) → list_any p (x ∷ []) ≡ p x
any_one p x = elim (p x) as (λ b. (b || false) ≡ b) [ true ↦ refl | false ↦ refl ]

any_reversed : (p : StmtFrame → Bool) (xs : List StmtFrame) → list_any p (reverse xs) ≡ list_any p xs
any_reversed p [] = refl
any_reversed p (x ∷ xs) =
    ap (list_any p) (reverse-append (x ∷ []) xs)
    ∙ list_any-append p (reverse xs) (x ∷ [])
    ∙ ap (λ b. b || list_any p (x ∷ [])) (any_reversed p xs)
    ∙ ap (λ b. list_any p xs || b) (any_one p x)
    ∙ or_comm (list_any p xs) (p x)

-- a mark is left behind the innermost statement exactly where a loop is in progress around it
pub marked_rest : (site : MethodContext) (body : NumberedStms) (xs : List StmtFrame) → has_mark (rest_of site body (reverse xs)) ≡ is_inside_loop xs
marked_rest site body [] = refl
marked_rest site body (o ∷ xs) =
    ap (λ ls. has_mark (rest_of site body ls)) (reverse-append (o ∷ []) xs) ∙ has_in_rest site body o (reverse xs) ∙ any_reversed has_level xs

-- without a level there is none
some_level : (site : MethodContext) (body : NumberedStms) (xs : List StmtFrame) (t : Resume) → has_mark (pending_of site body (reverse xs) t) ≡ true → 0 < length xs
some_level site body [] t h = let n = none_in_body body t in cc
some_level site body (x ∷ xs) t h = omega arith

-- ---- the work from the mark on

from_in_list : (xs : List NumberedStm) (x : NumberedStm) (ws : List ContItem) → from_mark ((map Do xs ++ End x ∷ []) ++ ws) ≡ from_mark ws
from_in_list [] x ws = refl
from_in_list (y ∷ xs) x ws = from_in_list xs x ws

-- what is left of a statement is passed, where it isn't a mark
pub from_passed : (site : MethodContext) (x : NumberedStm) (t : Resume) (ws : List ContItem) → is_mark t ≡ false → from_mark (work_of site x t ++ ws) ≡ from_mark ws
from_passed site x (resume.From n) ws h = from_in_list (drop n (list_in x)) x ws
from_passed site x resume.Before ws h = at_end_of_for (λ es. from_mark (es ++ ws) ≡ from_mark ws) x refl refl
from_passed site x resume.Behind ws h = cc
from_passed site x (resume.Turn variable domain at) ws h = cc
from_passed site x _ ws h = refl

at_mark : (site : MethodContext) (x : NumberedStm) (t : Resume) (ws : List ContItem) → is_mark t ≡ true → from_mark (work_of site x t ++ ws) ≡ work_of site x t ++ ws
at_mark site x resume.Behind ws h = refl
at_mark site x (resume.Turn variable domain at) ws h = refl
at_mark site x _ ws h = cc

same_at_mark : (site : MethodContext) (x : NumberedStm) (t : Resume) (ws : List ContItem) (vs : List Variable) → is_mark t ≡ true → variables_at_mark (work_of site x t ++ ws) vs ≡ vs
same_at_mark site x resume.Behind ws vs h = refl
same_at_mark site x (resume.Turn variable domain at) ws vs h = refl
same_at_mark site x _ ws vs h = cc

-- at a mark all is left
pub left_at_mark : (site : MethodContext) (body : NumberedStms) (xs : List StmtFrame) (t : Resume) → 0 < length xs → is_mark t ≡ true → from_mark (pending_of site body (reverse xs) t) ≡ pending_of site body (reverse xs) t
left_at_mark site body xs t h m = rw (left_within site body xs t h) (at_mark site (inside body (reverse xs)) t (rest_of site body (reverse xs)) m)

pub variables_there : (site : MethodContext) (body : NumberedStms) (xs : List StmtFrame) (t : Resume) (vs : List Variable) → 0 < length xs → is_mark t
    ≡ true → variables_at_mark (pending_of site body (reverse xs) t) vs ≡ vs
variables_there site body xs t vs h m = rw (left_within site body xs t h) (same_at_mark site (inside body (reverse xs)) t (rest_of site body (reverse xs)) vs m)

has_from : (ws : List ContItem) → has_mark (from_mark ws) ≡ has_mark ws
has_from [] = refl
has_from (Behind loop ∷ ws) = refl
has_from (Do x ∷ ws) = has_from ws
has_from (End x ∷ ws) = has_from ws
has_from (Before loop ∷ ws) = has_from ws
has_from (Receive receiver h ∷ ws) = has_from ws
has_from (CopyAll at to from points ∷ ws) = has_from ws
has_from (TakeAll at grid procs ∷ ws) = has_from ws

past_from : (ws : List ContItem) → past_mark (from_mark ws) ≡ past_mark ws
past_from [] = refl
past_from (Behind loop ∷ ws) = refl
past_from (Do x ∷ ws) = past_from ws
past_from (End x ∷ ws) = past_from ws
past_from (Before loop ∷ ws) = past_from ws
past_from (Receive receiver h ∷ ws) = past_from ws
past_from (CopyAll at to from points ∷ ws) = past_from ws
past_from (TakeAll at grid procs ∷ ws) = past_from ws

-- where the mark isn't reached yet, there are levels
pub level_left : (c : ProgramView) (old new : CallFrame) (t : Resume) → is_inside_loop old.levels.items ≡ true → from_mark (left_in c 0 new t) ≡ from_mark (rest c 0 old) → 0 < length new.levels.items
level_left c old new t h e =
    some_level (context_of_call c 0 new) (body_of c new) new.levels.items t
    (sym (has_from (left_in c 0 new t)) ∙ ap has_mark e ∙ has_from (rest c 0 old) ∙ marked_rest (context_of_call c 0 old) (body_of c old) old.levels.items ∙ h)

-- ---- the variables at the mark

pub variables_in_list : (xs : List NumberedStm) (x : NumberedStm) (ws : List ContItem) (vs : List Variable)
    → variables_at_mark ((map Do xs ++ End x ∷ []) ++ ws) vs ≡ variables_at_mark ws (without_variables (declared_in x) vs)
variables_in_list [] x ws vs = refl
variables_in_list (y ∷ xs) x ws vs = variables_in_list xs x ws vs

pub variables_at_end : (x : NumberedStm) (b : Bool) (ws : List ContItem) (vs : List Variable) → end_of_for x ≡ cond b (End x ∷ []) []
    → variables_at_mark (end_of_for x ++ ws) vs ≡ variables_at_mark ws (cond b (without_variables (declared_in x) vs) vs)
variables_at_end x true ws vs e = ap (λ es. variables_at_mark (es ++ ws) vs) e
variables_at_end x false ws vs e = ap (λ es. variables_at_mark (es ++ ws) vs) e

-- ---- jumps

-- another call of the same method stands where the innermost was
done_by : (c : ProgramView) (old : TreeMachine) (f : CallFrame) (vs : List Variable) (ws : List ContItem) → f.method ≡ old.top.method → f.this ≡ old.top.this
    → done_with c (record old { top = f }) vs ws ≡ done_with c old vs ws
done_by c old f vs ws m i =
    ap (λ n. done_with c (record old { top = record f { method = n } }) vs ws) m
    ∙ ap (λ t. done_with c (record old { top = record f { method = old.top.method; this = t } }) vs ws) i

pub jumped : (c : ProgramView) (old : TreeMachine) (f : CallFrame) (new : _) (us vs : List Variable) (ws ms : List ContItem) → f.method ≡ old.top.method → f.this ≡ old.top.this
    → us ≡ vs → ws ≡ ms → new ≡ done_with c (record old { top = f }) us ws → new ≡ done_with c old vs ms
jumped c old f new us vs ws ms m i u w e = e ∙ done_by c old f us ws m i ∙ ap (λ xs. done_with c old xs ws) u ∙ ap (done_with c old vs) w

pub left_past : (c : ProgramView) (procs : ℕ) (old f : CallFrame) (t past : Resume) (x : NumberedStm) → 0 < length f.levels.items → x ≡ innermost_stmt c f
    → ((site : MethodContext) (ws : List ContItem) → work_of site x past ++ ws ≡ past_mark (work_of site x t ++ ws)) → left_in c procs f t
    ≡ from_mark (rest c procs old) → left_in c procs f past ≡ past_mark (rest c procs old)
left_past c procs old f t past x h i p e =
    left_within _ _ f.levels.items past h
    ∙ subst (λ (y : NumberedStm). work_of (context_of_call c procs f) y past ++ rest c procs f ≡ past_mark (work_of (context_of_call c procs f) y t ++ rest c procs f)) i (p (context_of_call c procs f) (rest c procs f))
    ∙ ap past_mark (sym (left_within _ _ f.levels.items t h) ∙ e)
    ∙ past_from (rest c procs old)

-- a jump with a mark to go to, and one without
pub breaks_out : (c : ProgramView) (w : TreeMachine) (ws : List ContItem) → is_inside_loop w.top.levels.items ≡ true
    → moves (process_of c w) (top_of c w ws) (below_of c w) (rest c w.rank.procs w.top) Breaks
    ≡ To (done_with c w (variables_at_mark (rest c w.rank.procs w.top) (slots_of w.top.variables.slots.items)) (past_mark (rest c w.rank.procs w.top)))
breaks_out c w ws h = rw (marked_rest (context_of_call c w.rank.procs w.top) (body_of c w.top) w.top.levels.items ∙ h) refl

pub continues_on : (c : ProgramView) (w : TreeMachine) (ws : List ContItem) → is_inside_loop w.top.levels.items ≡ true
    → moves (process_of c w) (top_of c w ws) (below_of c w) (rest c w.rank.procs w.top) Continues
    ≡ To (done_with c w (variables_at_mark (rest c w.rank.procs w.top) (slots_of w.top.variables.slots.items)) (from_mark (rest c w.rank.procs w.top)))
continues_on c w ws h = rw (marked_rest (context_of_call c w.rank.procs w.top) (body_of c w.top) w.top.levels.items ∙ h) refl

pub breaks_nowhere : (c : ProgramView) (w : TreeMachine) (ws : List ContItem) → is_inside_loop w.top.levels.items ≡ false
    → moves (process_of c w) (top_of c w ws) (below_of c w) (rest c w.rank.procs w.top) Breaks ≡ To (done_with c w (slots_of w.top.variables.slots.items) (left_in c w.rank.procs w.top resume.Inside))
breaks_nowhere c w ws h = rw (
  marked_rest (context_of_call c w.rank.procs w.top) (body_of c w.top) w.top.levels.items ∙ h,
  left_inside (context_of_call c w.rank.procs w.top) (body_of c w.top) (reverse w.top.levels.items),
) refl

pub continues_nowhere : (c : ProgramView) (w : TreeMachine) (ws : List ContItem) → is_inside_loop w.top.levels.items ≡ false
    → moves (process_of c w) (top_of c w ws) (below_of c w) (rest c w.rank.procs w.top) Continues ≡ To (done_with c w (slots_of w.top.variables.slots.items) (left_in c w.rank.procs w.top resume.Inside))
continues_nowhere c w ws h = rw (
  marked_rest (context_of_call c w.rank.procs w.top) (body_of c w.top) w.top.levels.items ∙ h,
  left_inside (context_of_call c w.rank.procs w.top) (body_of c w.top) (reverse w.top.levels.items),
) refl

pub ruleset marks = (variables_in_list, variables_at_end, from_passed, reverse-append)
