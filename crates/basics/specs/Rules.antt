-- Sound tables and the rules by name: each rule of sound tables holds, and tables at which each rule holds are sound.
-- Rests on the rules' Sound and on Lists. Assumes nothing.
use Rattle.std.specs.Prelude.{List, [], ◌∷◌, T}
use Rattle.rules.specs.Tables.{Tables}
use Rattle.rules.specs.Sound.{Rule, thirty_two_objects, thirty_two_places, log_fits, chains_fit, sets_fit, values_fit, next_in_range, logged_once, logged_given_out, logged_not_live, live_once, live_given_out, written_accessed, prepared_accessed, depends_on_live, depends_not_on_self, holder_live, holder_accessed, holder_unprepared, holder_depends_on_last, chain_once, chain_accounted, logged_first, logged_saved, logged_rise, entry_depends_on_last, stable_named, free_place_zero, free_object_zero, holds, rules, sound}
use Rattle.basics.specs.Lists.{All, all_says}

pub every_rule : (t : Tables) → T (sound t) → (r : Rule) → T (holds r t)
unfolding sound rules
every_rule t s = go ((all_says (λ r. holds r t) rules).0 s)
  where
    go : All (λ r. T (holds r t)) rules → (r : Rule) → T (holds r t)
    go h thirty_two_objects = h.0
    go h thirty_two_places = h.1.0
    go h log_fits = h.1.1.0
    go h chains_fit = h.1.1.1.0
    go h sets_fit = h.1.1.1.1.0
    go h values_fit = h.1.1.1.1.1.0
    go h next_in_range = h.1.1.1.1.1.1.0
    go h logged_once = h.1.1.1.1.1.1.1.0
    go h logged_given_out = h.1.1.1.1.1.1.1.1.0
    go h logged_not_live = h.1.1.1.1.1.1.1.1.1.0
    go h live_once = h.1.1.1.1.1.1.1.1.1.1.0
    go h live_given_out = h.1.1.1.1.1.1.1.1.1.1.1.0
    go h written_accessed = h.1.1.1.1.1.1.1.1.1.1.1.1.0
    go h prepared_accessed = h.1.1.1.1.1.1.1.1.1.1.1.1.1.0
    go h depends_on_live = h.1.1.1.1.1.1.1.1.1.1.1.1.1.1.0
    go h depends_not_on_self = h.1.1.1.1.1.1.1.1.1.1.1.1.1.1.1.0
    go h holder_live = h.1.1.1.1.1.1.1.1.1.1.1.1.1.1.1.1.0
    go h holder_accessed = h.1.1.1.1.1.1.1.1.1.1.1.1.1.1.1.1.1.0
    go h holder_unprepared = h.1.1.1.1.1.1.1.1.1.1.1.1.1.1.1.1.1.1.0
    go h holder_depends_on_last = h.1.1.1.1.1.1.1.1.1.1.1.1.1.1.1.1.1.1.1.0
    go h chain_once = h.1.1.1.1.1.1.1.1.1.1.1.1.1.1.1.1.1.1.1.1.0
    go h chain_accounted = h.1.1.1.1.1.1.1.1.1.1.1.1.1.1.1.1.1.1.1.1.1.0
    go h logged_first = h.1.1.1.1.1.1.1.1.1.1.1.1.1.1.1.1.1.1.1.1.1.1.0
    go h logged_saved = h.1.1.1.1.1.1.1.1.1.1.1.1.1.1.1.1.1.1.1.1.1.1.1.0
    go h logged_rise = h.1.1.1.1.1.1.1.1.1.1.1.1.1.1.1.1.1.1.1.1.1.1.1.1.0
    go h entry_depends_on_last = h.1.1.1.1.1.1.1.1.1.1.1.1.1.1.1.1.1.1.1.1.1.1.1.1.1.0
    go h stable_named = h.1.1.1.1.1.1.1.1.1.1.1.1.1.1.1.1.1.1.1.1.1.1.1.1.1.1.0
    go h free_place_zero = h.1.1.1.1.1.1.1.1.1.1.1.1.1.1.1.1.1.1.1.1.1.1.1.1.1.1.1.0
    go h free_object_zero = h.1.1.1.1.1.1.1.1.1.1.1.1.1.1.1.1.1.1.1.1.1.1.1.1.1.1.1.1.0

pub by_every_rule : (t : Tables) → ((r : Rule) → T (holds r t)) → T (sound t)
unfolding sound rules
by_every_rule t f = (all_says (λ r. holds r t) rules).1 (go rules)
  where
    go : (rs : List Rule) → All (λ r. T (holds r t)) rs
    go [] = tt
    go (r ∷ rs) = (f r, go rs)
