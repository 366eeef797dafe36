-- The grammar of words at worked rows: each command's least words, each option, each kind of fault.
use Rattle.std.proofs.Common.{[], ◌∷◌, Some, None, pos, inl, inr, refl}
use Rattle.std.specs.Prelude.{codes}
use Rattle.spd_scaled.specs.DecimalReading.{decimal_of, sign_at, digits_at, fraction_at, exponent_at, lowest_of, without_end_zeros, scaled_of}
use Rattle.spd_model.specs.Options.{default_options}
use Rattle.spd_words.specs.declared.verb.Verb.TheVariants as verbs
use Rattle.spd_words.specs.declared.command.Command.TheVariants.{Solve, Ask, Check, Plain, Gen, Ring, Upgrade, Horizon, Evaluate, Bounded}
use Rattle.spd_words.specs.Verbs.{verb_named, key_named}
use Rattle.spd_words.specs.Values.{number_in, span_of}
use Rattle.spd_words.specs.Commands.{IsCommand, IsUsage}
use Rattle.spd_words.proofs.CallerLemmas.Grammar.{first_from_cases}

-- ---- commands

-- solve m
solve_row : IsCommand (codes "solve" ∷ codes "m" ∷ []) (Solve 1 default_options)
unfolding verb_named key_named number_in span_of decimal_of sign_at digits_at fraction_at exponent_at lowest_of without_end_zeros scaled_of
solve_row = (verbs.Solve, refl, (refl, (refl, tt)), refl)

-- solve -- -m
dashes_row : IsCommand (codes "solve" ∷ codes "--" ∷ codes "-m" ∷ []) (Solve 2 default_options)
unfolding verb_named key_named number_in span_of decimal_of sign_at digits_at fraction_at exponent_at lowest_of without_end_zeros scaled_of
dashes_row = (verbs.Solve, refl, (refl, (refl, tt)), refl)

-- solve m --workers 64
workers_row : IsCommand (codes "solve" ∷ codes "m" ∷ codes "--workers" ∷ codes "64" ∷ []) (Solve 1 (record default_options { workers = 64 }))
unfolding verb_named key_named number_in span_of decimal_of sign_at digits_at fraction_at exponent_at lowest_of without_end_zeros scaled_of
workers_row = (verbs.Solve, refl, (refl, (refl, (refl, (refl, tt)))), refl)

-- solve --nodes=16 m
nodes_row : IsCommand (codes "solve" ∷ codes "--nodes=16" ∷ codes "m" ∷ []) (Solve 2 (record default_options { nodes = 16 }))
unfolding verb_named key_named number_in span_of decimal_of sign_at digits_at fraction_at exponent_at lowest_of without_end_zeros scaled_of
nodes_row = (verbs.Solve, refl, (refl, (refl, (refl, (refl, tt)))), refl)

-- solve m --turns 0
turns_row : IsCommand (codes "solve" ∷ codes "m" ∷ codes "--turns" ∷ codes "0" ∷ []) (Solve 1 (record default_options { turns = 0 }))
unfolding verb_named key_named number_in span_of decimal_of sign_at digits_at fraction_at exponent_at lowest_of without_end_zeros scaled_of
turns_row = (verbs.Solve, refl, (refl, (refl, (refl, (refl, tt)))), refl)

-- plain m --span 0.5
span_row : IsCommand (codes "plain" ∷ codes "m" ∷ codes "--span" ∷ codes "0.5" ∷ []) (Plain 1 (record default_options { span = pos 500000000 }))
unfolding verb_named key_named number_in span_of decimal_of sign_at digits_at fraction_at exponent_at lowest_of without_end_zeros scaled_of
span_row = (verbs.Plain, refl, (refl, (refl, (refl, (refl, tt)))), refl)

-- check m c --memo 0000000001
memo_row : IsCommand (codes "check" ∷ codes "m" ∷ codes "c" ∷ codes "--memo" ∷ codes "0000000001" ∷ []) (Check 1 2 (record default_options { memo = 1 }))
unfolding verb_named key_named number_in span_of decimal_of sign_at digits_at fraction_at exponent_at lowest_of without_end_zeros scaled_of
memo_row = (verbs.Check, refl, (refl, (refl, (refl, (refl, (refl, tt))))), refl)

-- ask m
ask_alone_row : IsCommand (codes "ask" ∷ codes "m" ∷ []) (Ask 1 [] default_options)
unfolding verb_named key_named number_in span_of decimal_of sign_at digits_at fraction_at exponent_at lowest_of without_end_zeros scaled_of
ask_alone_row = (verbs.Ask, refl, (refl, (refl, tt)), refl)

-- ask m q a
ask_pair_row : IsCommand (codes "ask" ∷ codes "m" ∷ codes "q" ∷ codes "a" ∷ []) (Ask 1 (record { queries = 2; answers = 3 } ∷ []) default_options)
unfolding verb_named key_named number_in span_of decimal_of sign_at digits_at fraction_at exponent_at lowest_of without_end_zeros scaled_of
ask_pair_row = (verbs.Ask, refl, (refl, (refl, (refl, (refl, tt)))), refl)

-- check m c
check_row : IsCommand (codes "check" ∷ codes "m" ∷ codes "c" ∷ []) (Check 1 2 default_options)
unfolding verb_named key_named number_in span_of decimal_of sign_at digits_at fraction_at exponent_at lowest_of without_end_zeros scaled_of
check_row = (verbs.Check, refl, (refl, (refl, (refl, tt))), refl)

-- plain -
plain_row : IsCommand (codes "plain" ∷ codes "-" ∷ []) (Plain 1 default_options)
unfolding verb_named key_named number_in span_of decimal_of sign_at digits_at fraction_at exponent_at lowest_of without_end_zeros scaled_of
plain_row = (verbs.Plain, refl, (refl, (refl, tt)), refl)

-- gen 63
gen_row : IsCommand (codes "gen" ∷ codes "63" ∷ []) (Gen 63)
unfolding verb_named key_named number_in span_of decimal_of sign_at digits_at fraction_at exponent_at lowest_of without_end_zeros scaled_of
gen_row = (verbs.Gen, refl, (refl, (refl, tt)), refl)

-- ring 2
ring_row : IsCommand (codes "ring" ∷ codes "2" ∷ []) (Ring 2 default_options)
unfolding verb_named key_named number_in span_of decimal_of sign_at digits_at fraction_at exponent_at lowest_of without_end_zeros scaled_of
ring_row = (verbs.Ring, refl, (refl, (refl, tt)), refl)

-- upgrade m c
upgrade_row : IsCommand (codes "upgrade" ∷ codes "m" ∷ codes "c" ∷ []) (Upgrade 1 2 default_options)
unfolding verb_named key_named number_in span_of decimal_of sign_at digits_at fraction_at exponent_at lowest_of without_end_zeros scaled_of
upgrade_row = (verbs.Upgrade, refl, (refl, (refl, (refl, tt))), refl)

-- horizon m
horizon_row : IsCommand (codes "horizon" ∷ codes "m" ∷ []) (Horizon 1 None default_options)
unfolding verb_named key_named number_in span_of decimal_of sign_at digits_at fraction_at exponent_at lowest_of without_end_zeros scaled_of
horizon_row = (verbs.Horizon, refl, (refl, (refl, tt)), refl)

-- horizon m --steps 1000
steps_row : IsCommand (codes "horizon" ∷ codes "m" ∷ codes "--steps" ∷ codes "1000" ∷ []) (Horizon 1 (Some 1000) default_options)
unfolding verb_named key_named number_in span_of decimal_of sign_at digits_at fraction_at exponent_at lowest_of without_end_zeros scaled_of
steps_row = (verbs.Horizon, refl, (refl, (refl, (refl, (refl, tt)))), refl)

-- evaluate m c
evaluate_row : IsCommand (codes "evaluate" ∷ codes "m" ∷ codes "c" ∷ []) (Evaluate 1 2 None 10 default_options)
unfolding verb_named key_named number_in span_of decimal_of sign_at digits_at fraction_at exponent_at lowest_of without_end_zeros scaled_of
evaluate_row = (verbs.Evaluate, refl, (refl, (refl, (refl, tt))), refl)

-- evaluate m c --rounds=0 --sweeps=1000
rounds_row : IsCommand (codes "evaluate" ∷ codes "m" ∷ codes "c" ∷ codes "--rounds=0" ∷ codes "--sweeps=1000" ∷ []) (Evaluate 1 2 (Some 0) 1000 default_options)
unfolding verb_named key_named number_in span_of decimal_of sign_at digits_at fraction_at exponent_at lowest_of without_end_zeros scaled_of
rounds_row = (verbs.Evaluate, refl, (refl, (refl, (refl, (refl, (refl, (refl, (refl, tt))))))), refl)

-- bounded m u
bounded_row : IsCommand (codes "bounded" ∷ codes "m" ∷ codes "u" ∷ []) (Bounded 1 2 default_options)
unfolding verb_named key_named number_in span_of decimal_of sign_at digits_at fraction_at exponent_at lowest_of without_end_zeros scaled_of
bounded_row = (verbs.Bounded, refl, (refl, (refl, (refl, tt))), refl)

-- ---- faults

-- no words, and no command
empty_row : IsUsage [] 0
empty_row = refl

frob_row : IsUsage (codes "frob" ∷ codes "m" ∷ []) 0
unfolding verb_named
frob_row = inl (refl, refl)

-- solve
missing_fault : IsUsage (codes "solve" ∷ []) 1
unfolding verb_named key_named number_in span_of decimal_of sign_at digits_at fraction_at exponent_at lowest_of without_end_zeros scaled_of
missing_fault = inr (verbs.Solve, refl, first_from_cases _ _ _ _ refl)

-- solve m n
too_many_fault : IsUsage (codes "solve" ∷ codes "m" ∷ codes "n" ∷ []) 2
unfolding verb_named key_named number_in span_of decimal_of sign_at digits_at fraction_at exponent_at lowest_of without_end_zeros scaled_of
too_many_fault = inr (verbs.Solve, refl, first_from_cases _ _ _ _ refl)

-- solve m --workers 0
below_fault : IsUsage (codes "solve" ∷ codes "m" ∷ codes "--workers" ∷ codes "0" ∷ []) 3
unfolding verb_named key_named number_in span_of decimal_of sign_at digits_at fraction_at exponent_at lowest_of without_end_zeros scaled_of
below_fault = inr (verbs.Solve, refl, first_from_cases _ _ _ _ refl)

-- solve m --workers=65
above_fault : IsUsage (codes "solve" ∷ codes "m" ∷ codes "--workers=65" ∷ []) 2
unfolding verb_named key_named number_in span_of decimal_of sign_at digits_at fraction_at exponent_at lowest_of without_end_zeros scaled_of
above_fault = inr (verbs.Solve, refl, first_from_cases _ _ _ _ refl)

-- solve m --workers
no_value_fault : IsUsage (codes "solve" ∷ codes "m" ∷ codes "--workers" ∷ []) 3
unfolding verb_named key_named number_in span_of decimal_of sign_at digits_at fraction_at exponent_at lowest_of without_end_zeros scaled_of
no_value_fault = inr (verbs.Solve, refl, first_from_cases _ _ _ _ refl)

-- solve m --span 0.0000000001
fine_fault : IsUsage (codes "solve" ∷ codes "m" ∷ codes "--span" ∷ codes "0.0000000001" ∷ []) 3
unfolding verb_named key_named number_in span_of decimal_of sign_at digits_at fraction_at exponent_at lowest_of without_end_zeros scaled_of
fine_fault = inr (verbs.Solve, refl, first_from_cases _ _ _ _ refl)

-- solve m --nodes 16 --nodes 16
twice_fault : IsUsage (codes "solve" ∷ codes "m" ∷ codes "--nodes" ∷ codes "16" ∷ codes "--nodes" ∷ codes "16" ∷ []) 4
unfolding verb_named key_named number_in span_of decimal_of sign_at digits_at fraction_at exponent_at lowest_of without_end_zeros scaled_of
twice_fault = inr (verbs.Solve, refl, first_from_cases _ _ _ _ refl)

-- solve m --frob
unknown_fault : IsUsage (codes "solve" ∷ codes "m" ∷ codes "--frob" ∷ []) 2
unfolding verb_named key_named number_in span_of decimal_of sign_at digits_at fraction_at exponent_at lowest_of without_end_zeros scaled_of
unknown_fault = inr (verbs.Solve, refl, first_from_cases _ _ _ _ refl)

-- check m c --turns 1
not_its_fault : IsUsage (codes "check" ∷ codes "m" ∷ codes "c" ∷ codes "--turns" ∷ codes "1" ∷ []) 3
unfolding verb_named key_named number_in span_of decimal_of sign_at digits_at fraction_at exponent_at lowest_of without_end_zeros scaled_of
not_its_fault = inr (verbs.Check, refl, first_from_cases _ _ _ _ refl)

-- solve -m
one_dash_fault : IsUsage (codes "solve" ∷ codes "-m" ∷ []) 1
unfolding verb_named key_named number_in span_of decimal_of sign_at digits_at fraction_at exponent_at lowest_of without_end_zeros scaled_of
one_dash_fault = inr (verbs.Solve, refl, first_from_cases _ _ _ _ refl)

-- check - -
same_name_fault : IsUsage (codes "check" ∷ codes "-" ∷ codes "-" ∷ []) 2
unfolding verb_named key_named number_in span_of decimal_of sign_at digits_at fraction_at exponent_at lowest_of without_end_zeros scaled_of
same_name_fault = inr (verbs.Check, refl, first_from_cases _ _ _ _ refl)

-- ask m q
half_pair_fault : IsUsage (codes "ask" ∷ codes "m" ∷ codes "q" ∷ []) 3
unfolding verb_named key_named number_in span_of decimal_of sign_at digits_at fraction_at exponent_at lowest_of without_end_zeros scaled_of
half_pair_fault = inr (verbs.Ask, refl, first_from_cases _ _ _ _ refl)

-- ask m q a p a
same_answers_fault : IsUsage (codes "ask" ∷ codes "m" ∷ codes "q" ∷ codes "a" ∷ codes "p" ∷ codes "a" ∷ []) 5
unfolding verb_named key_named number_in span_of decimal_of sign_at digits_at fraction_at exponent_at lowest_of without_end_zeros scaled_of
same_answers_fault = inr (verbs.Ask, refl, first_from_cases _ _ _ _ refl)

-- ask -
same_input_fault : IsUsage (codes "ask" ∷ codes "-" ∷ []) 2
unfolding verb_named key_named number_in span_of decimal_of sign_at digits_at fraction_at exponent_at lowest_of without_end_zeros scaled_of
same_input_fault = inr (verbs.Ask, refl, first_from_cases _ _ _ _ refl)

-- gen 1
size_fault : IsUsage (codes "gen" ∷ codes "1" ∷ []) 1
unfolding verb_named key_named number_in span_of decimal_of sign_at digits_at fraction_at exponent_at lowest_of without_end_zeros scaled_of
size_fault = inr (verbs.Gen, refl, first_from_cases _ _ _ _ refl)

-- solve m --memo 00000000001
long_fault : IsUsage (codes "solve" ∷ codes "m" ∷ codes "--memo" ∷ codes "00000000001" ∷ []) 3
unfolding verb_named key_named number_in span_of decimal_of sign_at digits_at fraction_at exponent_at lowest_of without_end_zeros scaled_of
long_fault = inr (verbs.Solve, refl, first_from_cases _ _ _ _ refl)
