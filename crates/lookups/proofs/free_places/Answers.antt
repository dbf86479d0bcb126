-- `lookups::free_places` meets its contract: the places whose number is 0 are free. Assumes nothing.
use Rattle.std.proofs.Common.{rules, ◌∙◌}
use Rattle.lookups.proofs.Growing.{free_word, free_words}
use Rattle.lookups.proofs.free_places.Goals as goal

pub returns : goal.returns
returns c = let ws = c.args.t.now.words.now in
    c.places_where.ensures (free_word ws) (λ p b answers. search rules) ∙ free_words ws
