-- The random numbers of a seed.
use Rattle.std.specs.Prelude.{ℕ}
use Rattle.rand_core.specs.Pcg32Seed.{pcg32_seed}
use Rattle.rand_pcg.specs.Lcg.{Lcg}
use Rattle.rand_pcg.specs.Pcg.{pcg64_of_seed}

-- the random numbers of a seed: those of PCG XSL RR 128/64, whose state PCG32 makes of the seed
unfoldable pub words_of : ℕ → Lcg
words_of start = pcg64_of_seed (pcg32_seed 32 start)
