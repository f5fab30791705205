mod ValuedLemmas
