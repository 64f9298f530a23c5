-- W1 to W12, R3 and the caretaker's story, by computation from the definitions.
-- Assumes nothing.
use mathlib.Core.Path.{◌≡◌, refl}
use mathlib.Core.Bool.{true, ◌&&◌}
use Rattle.laws.proofs.Choices.{both_left, both_right}
use Rattle.answers.specs.Answers.{first}
use Rattle.answers.specs.Rules.{carried}
use Rattle.laws.specs.Fills.{tabulate}
use Rattle.laws.specs.Every.{every, distinct, there}
use Rattle.laws.specs.Any.{any}
use Rattle.laws.specs.Kept.{kept}
use Rattle.laws.specs.Nearest.{nearest}
use Rattle.tags.specs.Tags.{how_many, lowest_free}
use Rattle.params.specs.Numbers.{reaction_of, numbers_of, params_of, allowed}
use Rattle.params.specs.Parameters.{defaults, within, times_in_range, in_range}
use Rattle.heights.specs.Heights.{full_time, bottom, next_place, end_of, target, way_to, raw, told}
use Rattle.runs.specs.Millisecond.{shorter}
use Rattle.blind.specs.Orders.{started, ordered_off, ordered_running, ordered_at, ordered, motor_off, stopped_at, stopped, fresh_of}
use Rattle.blind.specs.Millisecond.{moved, arrived, ran, waited, millisecond_at, millisecond}
use Rattle.milliseconds.specs.Milliseconds.{milliseconds}
use Rattle.outputs.specs.Reports.{motor_of, active, busy, report}
use Rattle.sound_blind.specs.Sound.{sound_wait, sound_running, sound_motion, sound}
use Rattle.inputs.specs.Inputs.{mud, ssud, towards, aimed_between, aimed, followed, sapbp, acted}
use Rattle.duties.specs.Rulers.{ruler_of, duty_under, duty_of}
use Rattle.rules.specs.Rules.{ruled, flagged, commanded, heeded}
use Rattle.values.specs.Telegrams.{command_of, input_of}
use Rattle.kinds.specs.Kinds.{class_of}
use Rattle.link.specs.Link.{key_of, may_follow}
use Rattle.link.specs.Link.{in_range as linkInRange}
use Rattle.table.specs.Links.{links_to, no_link_to, address_class}
use Rattle.table.specs.Sound.{in_order}
use Rattle.table.specs.Sound.{is_sound as tableSound}
use Rattle.links.specs.Edits.{is_in, inserted, is_first, moved_among, other_class}
use Rattle.links.specs.Edits.{moved as movedLinks}
use Rattle.panel.specs.Panel.{present_in, reseated, each_seat}
use Rattle.panel.specs.Sound.{seats_in, sound_seat, sound_seats, all_named, is_sound}
use Rattle.panel.specs.Calls.{checks, lent_checks}
use Rattle.panel.specs.Reports.{reports}
use Rattle.telegrams.specs.Telegrams.{is_outside, link_checks, served, delivered, after_telegram, telegram_rule}
use Rattle.time_steps.specs.TimeSteps.{after_step, step_rule}
use Rattle.readings.specs.Strip.{command_at, commands, strip_rule}
use Rattle.seats.specs.Seats.{some_seat, in_use, busy_from, would_pass}
use Rattle.installs.specs.Installs.{install_rule}
use Rattle.wiring.specs.Wiring.{add_rule}
use Rattle.splices.specs.Splices.{off_strip, shifted, raised, splice_in_rule}
use Rattle.panel.specs.Panel.{bare}
use Rattle.demands.specs.Runs.{motor_seen}
use Rattle.demands.specs.Whole.{whole, same_list, same_panel}
use Rattle.demands.specs.Looks.{right}
use Rattle.demands.specs.Cases.{cases, all_right, r3, story}

-- all scripts at once, so that what is computed stands once
all_right_lem : (all_right && (right r3 bare && right story bare)) ≡ true
unfolding all_right cases right whole same_list same_panel first carried tabulate every distinct there any kept how_many lowest_free reaction_of numbers_of params_of allowed defaults within times_in_range in_range full_time bottom next_place end_of target way_to raw nearest told started ordered_off ordered_running ordered_at ordered motor_off stopped_at stopped fresh_of moved arrived shorter ran waited millisecond_at millisecond milliseconds motor_of active busy report sound_wait sound_running sound_motion sound mud ssud towards aimed_between aimed followed sapbp acted ruler_of duty_under duty_of ruled flagged commanded heeded command_of input_of class_of linkInRange key_of may_follow links_to address_class in_order tableSound is_in inserted is_first moved_among other_class no_link_to movedLinks present_in reseated each_seat seats_in sound_seat sound_seats all_named is_sound checks lent_checks reports is_outside link_checks served delivered after_telegram telegram_rule after_step step_rule command_at commands strip_rule some_seat in_use busy_from would_pass install_rule add_rule off_strip shifted raised splice_in_rule motor_seen
all_right_lem = refl

-- "W1 to W12 are shown to follow from the rules, as one list with one claim over it."
pub cases_right : all_right ≡ true
cases_right = both_left all_right (right r3 bare && right story bare) all_right_lem

others_right : (right r3 bare && right story bare) ≡ true
others_right = both_right all_right (right r3 bare && right story bare) all_right_lem

-- Each link of a telegram speaks to the blind as the link before left it, in table order.
pub r3_right : right r3 bare ≡ true
r3_right = both_left (right r3 bare) (right story bare) others_right

-- Only the west goes up under its wind alarm; the south, at its new terminal, hears only what is its own.
pub story_right : right story bare ≡ true
story_right = both_right (right r3 bare) (right story bare) others_right
