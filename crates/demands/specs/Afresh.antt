-- Demand 3, its second sentence: "After each accepted edit the link table equals one built afresh from the surviving links and any
-- new one, in any order." Which links these are is said of the links before the call, whatever the rule of the call does with them.
-- Assumes nothing.
use Rattle.std.specs.Prelude.{Bool, not, ◌&&◌, List, ◌∷◌, eqb}
use Rattle.laws.specs.Kept.{kept}
use Rattle.link.specs.declared.Link.{Link}
use Rattle.demands.specs.Calls.{Call, telegram, time_step, strip, install, remove_blind, write_params, add_link, remove_link, splice_in, splice_out, inventory}

-- The same address, the same tag and the same kind.
unfoldable pub same_link : Link → Link → Bool
same_link a b = eqb a.address b.address && (eqb a.tag b.tag && eqb a.kind b.kind)

-- "The surviving links and any new one": the new link beside the old ones; all but the link that is named; all but those of the tag
-- that is removed; after any other call the same.
abbrev pub survivors : Call → List Link → List Link
survivors (add_link link) links = link ∷ links
survivors (remove_link link) links = kept (λ l. not (same_link l link)) links
survivors (remove_blind tag) links = kept (λ l. not (eqb l.tag tag)) links
survivors (telegram address value) links = links
survivors (time_step dt) links = links
survivors strip links = links
survivors (install tag terminal asked) links = links
survivors (write_params tag asked) links = links
survivors (splice_in t n) links = links
survivors (splice_out t n) links = links
survivors inventory links = links
