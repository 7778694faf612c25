-- Sessions, budgets and frames, and when they are refused (document 01, "Numbers and bounds"). Assumes nothing.
use Rattle.std.specs.Prelude.{Bool, true, false, cond, not, ◌||◌, ◌&&◌, List, ℕ, zero, suc, ◌+◌, ◌*◌, ◌/◌, eqb, leb, ltb, length, get_or, set, Ok}
use Rattle.error.specs.Rules.{refused_if, Verdict}
use Rattle.error.specs.declared.Refusal.TheVariants.{BadBuffer, BadBudget, BadSession, NotAnEntry}
use Rattle.session.specs.declared.Session.{Session}
use Rattle.session.specs.declared.Budgets.{Budgets}
use Rattle.session.specs.declared.ObjectFrame.{ObjectFrame}
use Rattle.session.specs.declared.TitleFrame.{TitleFrame}

-- A session holds entry, object, pc, both depths and whether it is pending.

abbrev pub session : ℕ → ℕ → ℕ → ℕ → ℕ → Bool → Session
session e o pc d t w = record { entry = e; object = o; pc = pc; odepth = d; tdepth = t; pending = w }

-- A fresh one: 65,536, 0, 0, 0, 0, not pending.
abbrev pub fresh : Session
fresh = session 65536 0 0 0 0 false

-- Budgets: the upper ends are the defaults.
abbrev pub defaults : Budgets
defaults = record { steps = 1000000; objects = 100000; titles = 10000 }

-- An object frame is two numbers (object, pc), a title frame three (entry, object, pc).

abbrev pub object_frame : List ℕ → ℕ → ObjectFrame
object_frame f d = record { object = get_or f (d * 2) 0; pc = get_or f (d * 2 + 1) 0 }

abbrev pub pushed_object : List ℕ → ℕ → ObjectFrame → List ℕ
pushed_object f d x = set (set f (d * 2) x.object) (d * 2 + 1) x.pc

abbrev pub title_frame : List ℕ → ℕ → TitleFrame
title_frame t d = record { entry = get_or t (d * 3) 0; object = get_or t (d * 3 + 1) 0; pc = get_or t (d * 3 + 2) 0 }

abbrev pub pushed_title : List ℕ → ℕ → TitleFrame → List ℕ
pushed_title t d x = set (set (set t (d * 3) x.entry) (d * 3 + 1) x.object) (d * 3 + 2) x.pc

-- how many frames a room holds: left-over numbers are unused
abbrev pub object_room : List ℕ → ℕ
object_room f = length f / 2

abbrev pub title_room : List ℕ → ℕ
title_room t = length t / 3

-- 6: banks not 4,096 and 128 numbers, or frame room over the limit.
abbrev pub bad_banks : List ℕ → List ℕ → Bool
bad_banks g p = not (eqb (length g) 4096) || not (eqb (length p) 128)

abbrev pub bad_rooms : List ℕ → List ℕ → Bool
bad_rooms f t = ltb 65536 (object_room f) || ltb 65536 (title_room t)

unfoldable pub buffers_verdict : List ℕ → List ℕ → List ℕ → List ℕ → Verdict
buffers_verdict g p f t = refused_if (bad_banks g p || bad_rooms f t) BadBuffer

-- 7: a budget over its limit.
unfoldable pub budgets_verdict : Budgets → Verdict
budgets_verdict b = refused_if (ltb 1000000 b.steps || ltb 100000 b.objects || ltb 10000 b.titles) BadBudget

-- 10: an entry over 65,537.
unfoldable pub entry_verdict : ℕ → Verdict
entry_verdict e = refused_if (ltb 65537 e) NotAnEntry

-- Whether the object of each of the first `d` object frames is one of `n`.
unfoldable pub objects_live : List ℕ → ℕ → ℕ → Bool
objects_live f n zero = true
objects_live f n (suc d) = cond (leb n (object_frame f d).object) false (objects_live f n d)

-- The same of title frames, whose entries are at most 65,537.
unfoldable pub titles_live : List ℕ → ℕ → ℕ → Bool
titles_live t n zero = true
titles_live t n (suc d) =
    cond (ltb 65537 (title_frame t d).entry || leb n (title_frame t d).object) false (titles_live t n d)

-- 8, while pending: the current object, or one of a live frame, isn't on the disc, or a live title frame's entry exceeds 65,537.
unfoldable pub live_verdict : List ℕ → List ℕ → ℕ → Session → Verdict
live_verdict f t n s =
    refused_if (leb n s.object || not (objects_live f n s.odepth && titles_live t n s.tdepth)) BadSession

-- 8: a depth exceeds its room, the entry exceeds 65,537, or, while pending, the rule before.
unfoldable pub session_verdict : List ℕ → List ℕ → ℕ → Session → Bool → Verdict
session_verdict f t n s waits =
    cond (ltb (object_room f) s.odepth || ltb (title_room t) s.tdepth || ltb 65537 s.entry)
    (refused_if true BadSession)
    (cond waits (live_verdict f t n s) (Ok tt))
