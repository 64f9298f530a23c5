-- What any call makes of a blind that stays: it is as it was, it has heard a telegram, milliseconds have passed, or its parameters are
-- written.
-- Assumes nothing.
use Prim.Native.Nat.{ℕ}
use mathlib.Core.Path.{◌≡◌, refl, sym, ap, ◌∙◌, subst}
use mathlib.Core.Bool.{Bool, true, false, cond}
use mathlib.Core.List.{List}
use mathlib.Core.Option.{Option, some, map}
use lib.Dec.{eqb}
use Rattle.laws.proofs.Choices.{same_or_other}
use Rattle.answers.proofs.Rules.{leaves_has}
use Rattle.params.specs.Numbers.{params_of}
use Rattle.blind.specs.declared.Blind.{Blind}
use Rattle.milliseconds.specs.Milliseconds.{milliseconds}
use Rattle.rules.specs.Edits.{rewritten}
use Rattle.panel.specs.declared.Seat.{Seat}
use Rattle.panel.specs.Panel.{Model}
use Rattle.panel.specs.Sound.{Fine}
use Rattle.panel.specs.Calls.{Cells}
use Rattle.telegrams.specs.Locality.{reached, heard_by}
use Rattle.seats.specs.Untouched.{blind_at}
use Rattle.writes.specs.Writes.{seat_rewritten, write_rule}
use Rattle.demands.specs.Calls.{Call, telegram, time_step, strip, install, remove_blind, write_params, add_link, remove_link, splice_in, splice_out, inventory, does}
use Rattle.demands.specs.Demand2.{Stays}
use Rattle.demands.proofs.Seats.{seat_of_lem, reseated_blind}
use Rattle.demands.proofs.Alike.{spared, refused_leaves, install_leaves, add_blind, remove_link_blind}
use Rattle.demands.proofs.BlindSeen.{telegram_seen, step_seen}

pub data Change (tag : ℕ) (m : Model) (call : Call) (b : Blind) : Blind → Type 0 where
  kept : Change tag m call b b
  heard : (address value : ℕ) → call ≡ telegram address value → Change tag m call b (heard_by value (reached tag address m) b)
  passed : (dt : ℕ) → Change tag m call b (milliseconds dt b)
  written : (asked : List ℕ) → call ≡ write_params tag asked → Change tag m call b (rewritten (params_of asked) b)

-- the blind of a tag after a call
pub record Turned (tag : ℕ) (m : Model) (call : Call) (b : Blind) (n : Model) : Type 0 where
  pub now : Blind
  pub blind : blind_at tag n ≡ some now
  pub change : Change tag m call b now

chosen : {tag : ℕ} {m : Model} {call : Call} (done : Bool) (b new : Blind) → Change tag m call b new → Change tag m call b (cond done new b)
chosen true b new c = c
chosen false b new c = kept

left_alone : (tag : ℕ) (call : Call) (b : Blind) (m n : Model) → blind_at tag m ≡ some b → blind_at tag n ≡ blind_at tag m → Turned tag m call b n
left_alone tag call b m n here same = record { now = b; blind = same ∙ here; change = kept }

module _ (tag : ℕ) (b : Blind) (m : Model) (cells : Cells) (here : blind_at tag m ≡ some b) where
  abbrev After : Call → Type 0
  After call = Turned tag m call b (does call m cells).leaves

  spared_turned : (call : Call) → blind_at tag (does call m cells).leaves ≡ blind_at tag m → After call
  spared_turned call same = left_alone tag call b m _ here same

  refused_turned : (call : Call) → ((does call m cells).answer ≡ 0 → ⊥) → After call
  refused_turned call h = spared_turned call (refused_leaves tag m cells call h)

  write_turned : (asked : List ℕ) → After (write_params tag asked)
  unfolding write_rule
  write_turned asked =
      leaves_has (write_rule tag asked) m cells (Turned tag m (write_params tag asked) b) (left_alone tag (write_params tag asked) b m m here refl)
      (λ e.
      let (seat, there, is) = seat_of_lem (m.seats tag) b here in
      record {
        now = rewritten (params_of asked) b;
        blind = reseated_blind tag m (map (seat_rewritten (params_of asked)) (m.seats tag))
            ∙ ap (λ (o : Option Seat). map {B = Blind} (λ (x : Seat). x.blind) (map (seat_rewritten (params_of asked)) o)) there
            ∙ ap (λ (x : Blind). some (rewritten (params_of asked) x)) is;
        change = written asked refl;
      })

  pub call_turned : Fine m → (call : Call) → Stays tag (record { call = call; cells = cells }) m → Turned tag m call b (does call m cells).leaves
  call_turned fine (telegram address value) stays =
      record {
        now = cond (eqb (does (telegram address value) m cells).answer 0) (heard_by value (reached tag address m) b) b;
        blind = (telegram_seen tag b m cells fine.sound here address value).blind;
        change = chosen (eqb (does (telegram address value) m cells).answer 0) b _ (heard address value refl);
      }
  call_turned fine (time_step dt) stays =
      record {
        now = cond (eqb (does (time_step dt) m cells).answer 0) (milliseconds dt b) b;
        blind = (step_seen tag b m cells fine.sound here dt).blind;
        change = chosen (eqb (does (time_step dt) m cells).answer 0) b _ (passed dt);
      }
  call_turned fine strip stays = spared_turned strip (spared tag strip m cells tt).blind
  call_turned fine (install other terminal asked) stays =
      same_or_other tag other
      (λ same.
      subst (λ (t : ℕ). After (install t terminal asked)) same
      (spared_turned (install tag terminal asked) (install_leaves tag b m cells here terminal asked)))
      (λ apart. spared_turned (install other terminal asked) (spared tag (install other terminal asked) m cells apart).blind)
  call_turned fine (remove_blind other) stays =
      same_or_other tag other
      (λ same. refused_turned (remove_blind other) (stays (ap remove_blind (sym same))))
      (λ apart. spared_turned (remove_blind other) (spared tag (remove_blind other) m cells apart).blind)
  call_turned fine (write_params other asked) stays =
      same_or_other tag other
      (λ same. subst (λ (t : ℕ). After (write_params t asked)) same (write_turned asked))
      (λ apart. spared_turned (write_params other asked) (spared tag (write_params other asked) m cells apart).blind)
  call_turned fine (add_link link) stays = spared_turned (add_link link) (add_blind tag m cells link)
  call_turned fine (remove_link link) stays = spared_turned (remove_link link) (remove_link_blind tag m cells link)
  call_turned fine (splice_in t n) stays = spared_turned (splice_in t n) (spared tag (splice_in t n) m cells tt).blind
  call_turned fine (splice_out t n) stays = spared_turned (splice_out t n) (spared tag (splice_out t n) m cells tt).blind
  call_turned fine inventory stays = spared_turned inventory (spared tag inventory m cells tt).blind
