mod StandsLemmas
