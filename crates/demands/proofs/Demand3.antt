-- Demand 3: two runs, one with edits that spare the blind and one without them. What the two panels have in common at each point
-- is the blind and its own links (Alike.antt); what is inserted keeps that, and so does each telegram and time step (SameSteps.antt).
-- Assumes nothing.
use Prim.Native.Nat.{ℕ}
use mathlib.Core.Path.{◌≡◌, refl, sym, ap, ap₂, ◌∙◌}
use mathlib.Core.List.{List, [], ◌∷◌, ◌++◌}
use mathlib.Core.Option.{some}
use Rattle.blind.specs.declared.Blind.{Blind}
use Rattle.panel.specs.Panel.{Model}
use Rattle.panel.specs.Sound.{Fine}
use Rattle.panel.specs.Calls.{Cells}
use Rattle.seats.specs.Untouched.{blind_at}
use Rattle.demands.specs.Calls.{Call, telegram, time_step, strip, install, remove_blind, write_params, add_link, remove_link, splice_in, splice_out, inventory, does}
use Rattle.demands.specs.Runs.{gives, after, report_in, report_of, reports_of}
use Rattle.demands.specs.Demand3.{Spares, OfTheRun, told, passed, Step, own, inserted, reread, whole, without, SameRun}
use Rattle.demands.proofs.MotorSeen.{motor_seen_lem}
use Rattle.demands.proofs.Alike.{Alike, insert_alike}
use Rattle.demands.proofs.SameSteps.{Stepped, tell_stepped, pass_stepped}

-- a telegram or a time step in both runs
own_stepped : (tag : ℕ) (a b : Model) (blind : Blind) (call : Call) (cells : Cells) → OfTheRun call → Alike tag blind a b
    → Stepped tag (does call a cells) (does call b cells)
own_stepped tag a b blind (telegram address value) cells told k = tell_stepped tag address value cells a b blind k
own_stepped tag a b blind (time_step dt) cells passed k = pass_stepped tag dt cells a b blind k
own_stepped tag a b blind strip cells never k = elim never [ ]
own_stepped tag a b blind (install _ terminal _) cells never k = elim never [ ]
own_stepped tag a b blind (remove_blind _) cells never k = elim never [ ]
own_stepped tag a b blind (write_params _ _) cells never k = elim never [ ]
own_stepped tag a b blind (add_link _) cells never k = elim never [ ]
own_stepped tag a b blind (remove_link _) cells never k = elim never [ ]
own_stepped tag a b blind (splice_in t n) cells never k = elim never [ ]
own_stepped tag a b blind (splice_out t n) cells never k = elim never [ ]
own_stepped tag a b blind inventory cells never k = elim never [ ]

-- its report is the same in both
own_reports : (tag : ℕ) (a b : Model) (call : Call) (cells : Cells) → OfTheRun call → report_of tag (does call a cells) ≡ report_of tag (does call b cells)
    → report_in tag call (does call b cells) ≡ report_in tag call (does call a cells)
own_reports tag a b (telegram address value) cells told e = ap (λ (n : ℕ). n ∷ []) (sym e)
own_reports tag a b (time_step dt) cells passed e = ap (λ (n : ℕ). n ∷ []) (sym e)
own_reports tag a b strip cells never e = elim never [ ]
own_reports tag a b (install _ terminal _) cells never e = elim never [ ]
own_reports tag a b (remove_blind _) cells never e = elim never [ ]
own_reports tag a b (write_params _ _) cells never e = elim never [ ]
own_reports tag a b (add_link _) cells never e = elim never [ ]
own_reports tag a b (remove_link _) cells never e = elim never [ ]
own_reports tag a b (splice_in t n) cells never e = elim never [ ]
own_reports tag a b (splice_out t n) cells never e = elim never [ ]
own_reports tag a b inventory cells never e = elim never [ ]

-- what is inserted reports nothing
silent : (tag : ℕ) (call : Call) (m : Model) (cells : Cells) → Spares tag call → report_in tag call (does call m cells) ≡ []
silent tag (telegram address value) m cells s = absurd s
silent tag (time_step dt) m cells s = absurd s
silent tag strip m cells s = refl
silent tag (install other terminal asked) m cells s = refl
silent tag (remove_blind other) m cells s = refl
silent tag (write_params other asked) m cells s = refl
silent tag (add_link link) m cells s = refl
silent tag (remove_link link) m cells s = refl
silent tag (splice_in t n) m cells s = refl
silent tag (splice_out t n) m cells s = refl
silent tag inventory m cells s = refl

record Together (tag : ℕ) (steps : List (Step tag)) (a b : Model) : Type 0 where
  blind : Blind
  alike : Alike tag blind (after (without steps) a) (after (whole steps) b)
  reports : reports_of tag (whole steps) b ≡ reports_of tag (without steps) a

together : {tag : ℕ} (steps : List (Step tag)) (blind : Blind) (a b : Model) → Alike tag blind a b → Together tag steps a b
unfolding after whole without reports_of
together [] blind a b k = record { blind = blind; alike = k; reports = refl }
together {tag} (own turn of-run ∷ steps) blind a b k =
    let s = own_stepped tag a b blind turn.call turn.cells of-run k in
    let rest = together steps s.blind (gives turn a).leaves (gives turn b).leaves s.alike in
    record {
      blind = rest.blind;
      alike = rest.alike;
      reports = ap₂ (λ (x y : List ℕ). x ++ y) (own_reports tag a b turn.call turn.cells of-run s.reports) rest.reports;
    }
together {tag} (inserted turn spares ∷ steps) blind a b k =
    let rest = together steps blind a (gives turn b).leaves (insert_alike a b turn.call turn.cells spares k) in
    record {
      blind = rest.blind;
      alike = rest.alike;
      reports = ap (λ (x : List ℕ). x ++ reports_of tag (whole steps) (gives turn b).leaves) (silent tag turn.call b turn.cells spares)
          ∙ rest.reports;
    }
together {tag} (reread file spares ∷ steps) blind a b k = absurd spares

-- Demand 3. Any run is one of its own beginnings, so what is said of the end of a run holds at every point of it.
pub same_run : (tag : ℕ) (blind : Blind) (m : Model) → Fine m → blind_at tag m ≡ some blind → (steps : List (Step tag)) → SameRun tag steps m
same_run tag blind m fine e steps =
    let t = together steps blind m m (record { fine_a = fine; fine_b = fine; blind_a = e; blind_b = e; links = refl }) in
    let k = t.alike in
    record {
      blind = k.blind_b ∙ sym k.blind_a;
      reports = t.reports;
      motor = motor_seen_lem tag (after (whole steps) m) t.blind k.fine_b.sound k.blind_b
          ∙ sym (motor_seen_lem tag (after (without steps) m) t.blind k.fine_a.sound k.blind_a);
    }
